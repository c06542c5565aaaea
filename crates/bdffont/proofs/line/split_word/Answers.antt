use Rattle.std.proofs.Common.{◌≡◌, ◌<◌, length, drop, arith, ap}
use Rattle.std.proofs.lemmas.List.{take_rest}
use Rattle.std.proofs.lemmas.Bool.Decides.{nat_tests}
use Rattle.bdffont.proofs.Words.{words-first, words-none}
use Rattle.bdffont.proofs.line.split_word.Goals as goal

pub returns-then-is_empty : goal.returns-then-is_empty
returns-then-is_empty c =
    let rest = take_rest c.args.line.now c.spaces_len.result in
    let none : length (drop c.spaces_len.result c.args.line.now) ≡ 0 = grind (arith, nat_tests, c.is_empty.ensures, c.if-is_empty.true, ap length rest) in
    words-none _ _ c.spaces_len.ensures.count none

pub returns : goal.returns
returns c =
    let rest = take_rest c.args.line.now c.spaces_len.result in
    let some : 0 < length (drop c.spaces_len.result c.args.line.now) = grind (arith, nat_tests, c.is_empty.ensures, c.if-is_empty.false, ap length rest) in
    rw (c.split_at.ensures.front, c.split_at.ensures.back, rest) (words-first _ _ _ c.spaces_len.ensures.count (rw rest at c.word_len.ensures.count) (rw rest at c.word_len.ensures.within) some)
