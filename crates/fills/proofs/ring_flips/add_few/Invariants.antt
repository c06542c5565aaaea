use Rattle.std.proofs.Common.{◌≡◌, drop, map}
use Rattle.viewport.specs.View.{device_point}
use Rattle.vertices.specs.Chain.{chain_edges, chain_end}
use Rattle.fills.specs.Flipped.{IsCorner}
use Rattle.fills.proofs.Flipping.{IsLeft}
use Rattle.fills.proofs.ring_flips.add_few.Given as goal

abbrev pub invariant-loop-to : goal.invariant-loop-to
invariant-loop-to l = record {
  sides : l.flips ≡ record l.fn.flips { flips = l.flips.flips };
  end : chain_end l.corner.from (drop l.to-index l.rest) ≡ chain_end l.start.from l.fn.rest;
  left : IsLeft l.rows l.fn.flips.flips l.flips.flips
      (chain_edges (device_point l.rows l.start.from) (map (device_point l.rows) l.fn.rest))
      (chain_edges (device_point l.rows l.corner.from) (map (device_point l.rows) (drop l.to-index l.rest)));
  corner : IsCorner l.rows l.corner;
}
