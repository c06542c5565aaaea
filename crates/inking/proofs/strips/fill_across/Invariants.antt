use Rattle.std.proofs.Common.{◌≡◌, ◌≤◌, Some}
use Rattle.canvas.specs.Painted.{IsFilled}
use Rattle.inking.proofs.Stripping.{is_across}
use Rattle.inking.proofs.strips.fill_across.Given as goal

-- what the strip covers before this column is filled
abbrev pub invariant-loop-column : goal.invariant-loop-column
invariant-loop-column l = record {
  first : l.initial.column ≤ l.column;
  walk : l.walk ≡ record { edge = l.fn.strip.edge; width = l.fn.strip.width; row = l.column };
  filled : IsFilled (is_across l.fn.strip l.initial.column l.column) (λ i j. Some l.colour) l.fn.canvas l.canvas;
}
