use Rattle.std.proofs.Common.{◌≡◌, map, take}
use Rattle.geom.specs.EvenOdd.{edges}
use Rattle.viewport.specs.View.{device_point}
use Rattle.fills.specs.Flipped.{StandFor}
use Rattle.fills.proofs.ring_flips.add_rings.Given as goal

abbrev pub invariant-loop-ring : goal.invariant-loop-ring
invariant-loop-ring l = record {
  sides : l.flips ≡ record l.fn.flips { flips = l.flips.flips };
  stand : StandFor l.rows l.flips.flips (edges (map (map (device_point l.rows)) (take l.ring-index l.rings)));
}
