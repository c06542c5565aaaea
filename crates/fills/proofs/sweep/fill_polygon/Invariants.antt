use Rattle.std.proofs.Common.{◌≡◌, ◌≤◌, ◌-◌}
use Rattle.canvas.specs.Painted.{HasRowsFilled}
use Rattle.fills.proofs.Sweeping.{inside_of, one_colour}
use Rattle.fills.proofs.sweep.fill_polygon.Given as goal

-- the rows that the sweep has come past are filled
abbrev pub invariant-loop-spans : goal.invariant-loop-spans
invariant-loop-spans l = record {
  sweep : l.sweep ≡ record { edges = l.fn.polygon; width = l.fn.canvas.width; height = l.fn.canvas.height; row = l.sweep.row };
  most : l.sweep.row ≤ l.fn.canvas.height;
  filled : HasRowsFilled (inside_of l.fn.polygon) (one_colour l.colour) 0 l.sweep.row l.fn.canvas l.canvas;
}

abbrev pub decreases-loop-spans : goal.decreases-loop-spans
decreases-loop-spans l = l.fn.canvas.height - l.sweep.row
