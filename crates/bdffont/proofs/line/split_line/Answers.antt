use Rattle.std.proofs.Common.{◌<◌, length, arith}
use Rattle.std.proofs.lemmas.List.{take_rest}
use Rattle.std.proofs.lemmas.Bool.Decides.{nat_tests}
use Rattle.bdffont.proofs.Words.{lines-first, lines-last}
use Rattle.bdffont.proofs.line.split_line.Goals as goal

pub returns-then-at-bytes-clause-lines : goal.returns-then-at-bytes-clause-lines
returns-then-at-bytes-clause-lines c =
    let some : 0 < length c.args.bytes.now = grind (arith, nat_tests, c.is_empty.ensures, c.if-is_empty.false) in
    lines-last _ _ c.line_len-at.ensures.count c.if-at-bytes.true some

pub returns-else-at-bytes-clause-lines : goal.returns-else-at-bytes-clause-lines
returns-else-at-bytes-clause-lines c = rw (take_rest, c.without_carriage_return.ensures) (lines-first _ _ c.line_len-at.ensures.count (omega arith))
