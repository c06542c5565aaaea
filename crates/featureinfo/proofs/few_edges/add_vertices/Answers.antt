use Rattle.std.proofs.Common.{◌≡◌, ◌+◌, List, [], ◌++◌, ap, drop, map}
use Rattle.std.proofs.Math.ListN.{drop_of_length-le}
use Rattle.geom.specs.World.{Place}
use Rattle.viewport.specs.View.{device_point}
use Rattle.vertices.specs.Chain.{chain_edges}
use Rattle.vertices.proofs.Blocks.{rest-next}
use Rattle.featureinfo.proofs.FewEdges.{alike-same, chain-next, left-none}
use Rattle.featureinfo.proofs.few_edges.add_vertices.Goals as goal

pub loop-to-init : goal.loop-to-init
loop-to-init c =
    let point = device_point c.args.near.now.projection.now in
    alike-same c.args.near.now.nearby _ _ (ap (λ v. c.args.edges.now.items ++ chain_edges v (map point c.args.vertices.now)) c.device-at.ensures)

pub loop-to-preserved : goal.loop-to-preserved
loop-to-preserved c =
    let l = c.loop-to in
    let near = c.args.near.now in
    let next = rest-next c.args.vertices.now l.to-index c.to-item.result c.loop-to-test.true c.to-item.is in
    chain-next near.nearby near.projection.now l.edges.items c.add_edge.new.edges.items _ l.at c.device-next.result c.to-item.result
    (drop l.to-index c.args.vertices.now) (drop (l.to-index + 1) c.args.vertices.now) next c.device-next.ensures l.invariant c.in_ok-add_edge.ensures

pub returns : goal.returns
returns c =
    let l = c.loop-to in
    let near = c.args.near.now in
    let point = device_point near.projection.now in
    let none : drop l.to-index c.args.vertices.now ≡ [] = drop_of_length-le c.args.vertices.now c.loop-to-test.false in
    left-none near.nearby l.edges.items _ (chain_edges l.at (map point (drop l.to-index c.args.vertices.now))) (ap (λ (ps : List Place). chain_edges l.at (map point ps)) none) l.invariant
