use Rattle.std.proofs.Common.{◌≡◌, ◌^◌, ap, arith}
use Rattle.scanfill.specs.Column.{column_of}
use Rattle.scanfill.proofs.Columns.{IsColumn-column_of, column-below}
use Rattle.scanfill.proofs.Words.{word}
use Rattle.scanfill.proofs.walk.EdgeWalk.column.Goals as goal

pub returns-clause-least : goal.returns-clause-least
returns-clause-least c =
    let w = c.self.inside in
    let i = c.self.invariant in
    let crosses = i.crosses.each w.row (omega arith) (omega arith) in
    let same : w.place.column ≡ column_of w.edge w.row = ap (λ p. p.column) i.at in
    rw (← c.self.view_is, same, word (2 ^ 44) (column_of w.edge w.row) (omega arith) (column-below w.edge w.row i.device crosses))
    (IsColumn-column_of w.edge w.row crosses)

pub returns-clause-range : goal.returns-clause-range
returns-clause-range c =
    let w = c.self.inside in
    let i = c.self.invariant in
    let crosses = i.crosses.each w.row (omega arith) (omega arith) in
    let same : w.place.column ≡ column_of w.edge w.row = ap (λ p. p.column) i.at in
    let below = column-below w.edge w.row i.device crosses in
    rw (same, word (2 ^ 44) (column_of w.edge w.row) (omega arith) below) below
