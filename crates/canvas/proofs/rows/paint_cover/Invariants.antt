use Rattle.std.proofs.Common.{Some, ◌≤◌}
use Rattle.canvas.specs.Painted.{HasRowsFilled}
use Rattle.canvas.proofs.rows.paint_cover.Given as goal

-- the rows before this one are filled
abbrev pub invariant-loop-row : goal.invariant-loop-row
invariant-loop-row g l = record {
  first : l.initial.row ≤ l.row;
  filled : HasRowsFilled (g.C.Cover.covered l.cover) (λ i j. Some l.colour) l.initial.row l.row l.fn.canvas l.canvas;
}
