use Rattle.std.proofs.Common.{subst}
use Rattle.std.proofs.lemmas.Result.{IfOk-weaker}
use Rattle.geom.specs.EvenOdd.{edges}
use Rattle.viewport.specs.View.{ViewValue, points_of}
use Rattle.featureinfo.specs.FewEdges.{CoverAlike}
use Rattle.featureinfo.proofs.FewEdges.{near-alike}
use Rattle.featureinfo.proofs.layer_hits.polygon_near.Goals as goal

pub returns : goal.returns
returns c =
    let n = c.args.nearby in
    let parts = c.args.parts.now in
    let view = c.args.scene.now.view in
    let alike : CoverAlike n c.in_ok-polygon.polygon (edges (points_of view parts)) =
    subst (λ (v : ViewValue). CoverAlike n c.in_ok-polygon.polygon (edges (points_of v parts))) c.projection.ensures c.in_ok-polygon.ensures in
    IfOk-weaker c.meets_cover.result _ _ (λ hit says. near-alike n c.in_ok-polygon.polygon (edges (points_of view parts)) hit alike says) c.meets_cover.ensures
