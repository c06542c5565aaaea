use Rattle.std.proofs.Common.{◌≡◌, ◌<◌, ◌*◌, ◌-◌, ◌∷◌, ◌++◌, drop, length, map}
use Rattle.geom.specs.EvenOdd.{ring_edges}
use Rattle.geom.proofs.Rings.{closing_edges}
use Rattle.viewport.specs.View.{device_point}
use Rattle.featureinfo.specs.FewEdges.{CoverAlike}
use Rattle.featureinfo.proofs.few_edges.add_ring.Given as goal

-- the edges of the blocks before this one are covered, and this block begins with the last vertex
abbrev pub invariant-loop-area : goal.invariant-loop-area
invariant-loop-area l = record {
  covers : CoverAlike l.near.nearby
      (l.edges.items ++ closing_edges (device_point l.near.projection.now l.first) (device_point l.near.projection.now l.from) (map (device_point l.near.projection.now) l.left))
      (l.fn.edges.items ++ ring_edges (map (device_point l.near.projection.now) l.fn.ring));
  rest : length l.left ≡ length l.fn.ring - 1 - 32 * l.area-index;
  here : 32 * l.area-index < length l.fn.ring → l.from ∷ l.left ≡ drop (32 * l.area-index) l.fn.ring;
}
