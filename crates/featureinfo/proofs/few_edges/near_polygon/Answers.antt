use Rattle.std.proofs.Common.{List, arith, map, subst, take_all}
use Rattle.geom.specs.EvenOdd.{edges}
use Rattle.geom.specs.World.{Place}
use Rattle.viewport.specs.View.{device_point}
use Rattle.featureinfo.specs.FewEdges.{CoverAlike}
use Rattle.featureinfo.proofs.FewEdges.{alike-same, ring-next}
use Rattle.featureinfo.proofs.few_edges.near_polygon.Goals as goal

pub loop-ring-init : goal.loop-ring-init
loop-ring-init c = alike-same c.args.near.now.nearby _ _ c.new-edges.ensures.items

pub loop-ring-preserved : goal.loop-ring-preserved
loop-ring-preserved c =
    let l = c.loop-ring in
    let near = c.args.near.now in
    ring-next near.nearby near.projection.now c.args.rings.now l.ring-index c.ring-item.result l.edges.items c.add_ring.new.edges.items c.loop-ring-test.true c.ring-item.is
    l.invariant c.in_ok-add_ring.ensures

pub returns : goal.returns
returns c =
    let l = c.loop-ring in
    let near = c.args.near.now in
    rw c.of.ensures
    (subst (λ (rings : List (List Place)). CoverAlike near.nearby l.edges.items (edges (map (map (device_point near.projection.now)) rings))) (take_all l.ring-index c.args.rings.now (omega (arith, c.loop-ring-test.false)))
    l.invariant)
