use Rattle.std.proofs.Common.{◌≡◌, ◌^◌, ap, arith}
use Rattle.scanfill.specs.Column.{column_of}
use Rattle.scanfill.proofs.Columns.{column-below}
use Rattle.scanfill.proofs.Words.{word}
use Rattle.scanfill.proofs.flips.column.Goals as goal

pub returns-clause-range : goal.returns-clause-range
returns-clause-range c =
    let e = c.args.edge in
    let same : c.of.result.column ≡ column_of e c.args.row = ap (λ p. p.column) c.of.ensures in
    let below = column-below e c.args.row c.rise-rise.ensures.limits c.requires.crosses in
    rw (same, word (2 ^ 44) (column_of e c.args.row) (omega arith) below) below
