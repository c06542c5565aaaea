use Rattle.std.proofs.Common.{◌≤◌, Some}
use lib.IntN.{pos}
use Rattle.geom.specs.Device.{pixel_centre}
use Rattle.strokes.specs.Disc.{covers_disc}
use Rattle.canvas.specs.Painted.{HasRowsFilled}
use Rattle.canvas.proofs.discs.fill_disc.Given as goal

-- the rows before this one are filled
abbrev pub invariant-loop-row : goal.invariant-loop-row
invariant-loop-row l = record {
  first : l.initial.row ≤ l.row;
  filled : HasRowsFilled (λ i j. covers_disc l.disc (pixel_centre (pos i) (pos j))) (λ i j. Some l.colour) l.initial.row l.row l.fn.canvas l.canvas;
}
