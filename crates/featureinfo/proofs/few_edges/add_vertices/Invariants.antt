use Rattle.std.proofs.Common.{◌++◌, drop, map}
use Rattle.viewport.specs.View.{device_point}
use Rattle.vertices.specs.Chain.{chain_edges}
use Rattle.featureinfo.specs.FewEdges.{CoverAlike, edges_along}
use Rattle.featureinfo.proofs.few_edges.add_vertices.Given as goal

-- the edges up to the last vertex are covered
abbrev pub invariant-loop-to : goal.invariant-loop-to
invariant-loop-to l = CoverAlike l.near.nearby
    (l.edges.items ++ chain_edges l.at (map (device_point l.near.projection.now) (drop l.to-index l.vertices)))
    (l.fn.edges.items ++ edges_along l.near.projection.now l.fn.from l.vertices)
