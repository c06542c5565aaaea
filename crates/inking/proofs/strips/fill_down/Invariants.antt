use Rattle.std.proofs.Common.{◌≡◌, ◌≤◌, Some}
use Rattle.canvas.specs.Painted.{IsFilled}
use Rattle.inking.proofs.Stripping.{is_down}
use Rattle.inking.proofs.strips.fill_down.Given as goal

-- what the strip covers before this row is filled
abbrev pub invariant-loop-row : goal.invariant-loop-row
invariant-loop-row l = record {
  first : l.initial.row ≤ l.row;
  walk : l.walk ≡ record { edge = l.fn.strip.edge; width = l.fn.strip.width; row = l.row };
  filled : IsFilled (is_down l.fn.strip l.initial.row l.row) (λ i j. Some l.colour) l.fn.canvas l.canvas;
}
