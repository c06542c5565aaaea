use Rattle.std.proofs.Common.{◌≡◌, ◌<◌, ◌*◌, ◌-◌, ◌∷◌, drop, length, map}
use Rattle.geom.specs.EvenOdd.{ring_edges}
use Rattle.geom.proofs.Rings.{closing_edges}
use Rattle.viewport.specs.View.{device_point}
use Rattle.fills.specs.Flipped.{IsRun}
use Rattle.fills.proofs.Flipping.{IsLeft}
use Rattle.fills.proofs.ring_flips.add_blocks.Given as goal

-- the edges of the blocks before this one are added, and this block begins with the run's vertex
abbrev pub invariant-loop-area : goal.invariant-loop-area
invariant-loop-area l = record {
  sides : l.flips ≡ record l.fn.flips { flips = l.flips.flips };
  edges : IsLeft l.rows l.fn.flips.flips l.flips.flips (ring_edges (map (device_point l.rows) l.fn.ring))
      (closing_edges (device_point l.rows l.first) (device_point l.rows l.run.from) (map (device_point l.rows) l.left));
  valid : IsRun l.rows l.run;
  rest : length l.left ≡ length l.fn.ring - 1 - 32 * l.area-index;
  here : 32 * l.area-index < length l.fn.ring → l.run.from ∷ l.left ≡ drop (32 * l.area-index) l.fn.ring;
}
