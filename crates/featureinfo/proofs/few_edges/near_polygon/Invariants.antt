use Rattle.std.proofs.Common.{map, take}
use Rattle.geom.specs.EvenOdd.{edges}
use Rattle.viewport.specs.View.{device_point}
use Rattle.featureinfo.specs.FewEdges.{CoverAlike}
use Rattle.featureinfo.proofs.few_edges.near_polygon.Given as goal

-- the rings before this one are covered
abbrev pub invariant-loop-ring : goal.invariant-loop-ring
invariant-loop-ring l = CoverAlike l.near.nearby l.edges.items (edges (map (map (device_point l.near.projection.now)) (take l.ring-index l.rings)))
