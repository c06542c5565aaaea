use Rattle.std.proofs.Common.{◌≡◌, arith, ◌∙◌, sym}
use Rattle.bdffont.specs.Words.{words}
use Rattle.bdffont.proofs.Words.{word-here, words-next, no-word}
use Rattle.bdffont.proofs.line.word.Goals as goal

pub returns-in-None : goal.returns-in-None
returns-in-None c = no-word (words c.args.line.now) c.loop.counter c.args.index (sym c.in-None.ensures ∙ c.loop.invariant) (omega arith)

pub loop-preserved : goal.loop-preserved
loop-preserved c = words-next (words c.args.line.now) c.loop.counter _ _ (sym c.in-Some.ensures ∙ c.loop.invariant)

pub returns-in-Some-split_word : goal.returns-in-Some-split_word
returns-in-Some-split_word c =
    let all : c.args.index ≡ c.loop.counter = omega arith in
    rw all (word-here (words c.args.line.now) c.loop.counter c.in-Some-split_word.word.now (words c.in-Some-split_word.field-0-1.now) (sym c.in-Some-split_word.ensures ∙ c.loop.invariant))

pub returns-in-None-split_word : goal.returns-in-None-split_word
returns-in-None-split_word c = no-word (words c.args.line.now) c.loop.counter c.args.index (sym c.in-None-split_word.ensures ∙ c.loop.invariant) (omega arith)
