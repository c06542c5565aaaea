use Rattle.std.proofs.Common.{◌≤◌, Some}
use lib.IntN.{pos}
use Rattle.geom.specs.Device.{pixel_centre}
use Rattle.strokes.specs.Round.{covers_round}
use Rattle.canvas.specs.Painted.{IsFilled}
use Rattle.inking.proofs.RoundFilling.{in_rows}
use Rattle.inking.proofs.round_fill.fill_step.Given as goal

-- what the step covers above this row is filled
abbrev pub invariant-loop-row : goal.invariant-loop-row
invariant-loop-row l = record {
  first : l.initial.row ≤ l.row;
  filled : IsFilled (in_rows (λ i j. covers_round l.step.width l.step.edge (pixel_centre (pos i) (pos j))) l.initial.row l.row) (λ i j. Some l.colour) l.fn.canvas l.canvas;
}
