use Rattle.std.proofs.Common.{◌+◌, ◌≤◌, ◌&&◌, Some}
use Rattle.scanfill.specs.Runs.{has_column}
use Rattle.canvas.specs.Painted.{AreRowsFilled}
use Rattle.canvas.proofs.colouring.fill_rows.Given as goal

-- the rows before this one are filled
abbrev pub invariant-loop-row : goal.invariant-loop-row
invariant-loop-row l = record {
  first : l.initial.row ≤ l.row;
  filled : AreRowsFilled (λ i j. has_column (record { from = l.fn.area.from; to = l.fn.area.from + l.fn.area.count }) i && has_column l.fn.area.rows j) (λ i j. Some l.colour) l.fn.width (record { from = l.initial.row; to = l.row }) l.fn.pixels l.pixels;
}
