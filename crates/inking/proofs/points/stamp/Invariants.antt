use Rattle.std.proofs.Common.{◌≤◌, ℕ}
use lib.IntN.{pos}
use Rattle.symbols.specs.Stamp.{covers_pixel, pixel_at}
use Rattle.canvas.specs.Painted.{HasRowsFilled}
use Rattle.inking.proofs.points.stamp.Given as goal

-- the rows before this one are stamped
abbrev pub invariant-loop-row : goal.invariant-loop-row
invariant-loop-row l = record {
  first : l.initial.row ≤ l.row;
  filled : HasRowsFilled (λ (i j : ℕ). covers_pixel l.stamp (pos i) (pos j)) (λ (i j : ℕ). pixel_at l.stamp (pos i) (pos j)) l.initial.row l.row l.fn.canvas l.canvas;
}
