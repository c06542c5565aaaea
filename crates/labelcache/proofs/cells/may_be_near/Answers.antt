use Rattle.std.proofs.Common.{◌≡◌, ◌/◌, ◌^◌, ap}
use Rattle.labelcache.specs.Candidate.{square}
use Rattle.labelcache.specs.Cells.{apart}
use Rattle.labelcache.specs.declared.cells.Cell.{Cell}
use Rattle.labelcache.proofs.Nesting.{cell-from, cell-to, nearer}
use Rattle.labelcache.proofs.cells.may_be_near.Goals as goal

pub returns-clause-complete : goal.returns-clause-complete
returns-clause-complete c = λ p is near.
    let side = c.side_of-side.ensures.value in
    let level = c.args.cell.level in
    let column : c.args.cell.column ≡ p.column / 2 ^ level = ap (λ (cell : Cell). cell.column) is in
    let row : c.args.cell.row ≡ p.row / 2 ^ level = ap (λ (cell : Cell). cell.row) is in
    let across = c.gap-across.ensures.least p.column (rw (side, column) (cell-from p.column level)) (rw (side, column) (cell-to p.column level)) in
    let down = c.gap-down.ensures.least p.row (rw (side, row) (cell-from p.row level)) (rw (side, row) (cell-to p.row level)) in
    c.is_within.ensures.1
    (nearer c.gap-across.result c.gap-down.result (apart c.args.point.column p.column) (apart c.args.point.row p.row) (square c.args.distance) across down near)
