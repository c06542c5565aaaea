use Rattle.std.proofs.Common.{sym, ◌∙◌}
use Rattle.expressions.proofs.Words.{after_word-short}
use Rattle.expressions.proofs.word.after_word.Goals as goal

pub returns-in_default-clause-value : goal.returns-in_default-clause-value
returns-in_default-clause-value c =
    sym (after_word-short c.args.word.now c.loop-letter.rest.now c.loop-letter.letter-index c.loop-letter-test.true c.in_default.len_below) ∙ c.loop-letter.invariant.goes_on
