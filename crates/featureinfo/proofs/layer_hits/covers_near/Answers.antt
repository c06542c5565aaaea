use Rattle.std.proofs.Common.{◌∙◌, ◌↔◌, ap, subst, sym, IsTrue}
use Rattle.mapdefs.specs.declared.layer.Geometry.{Geometry}
use Rattle.featureinfo.specs.Hits.{covers_plainly}
use Rattle.featureinfo.specs.Nearby.{SomeNear, points_near}
use Rattle.featureinfo.proofs.PointsNear.{points-near}
use Rattle.featureinfo.proofs.layer_hits.covers_near.Goals as goal

pub returns-in-Point : goal.returns-in-Point
returns-in-Point c =
    subst (λ (k : Geometry). IsTrue c.points_near.result ↔ SomeNear c.args.queried.now.nearby (covers_plainly c.args.queried.now.scene.now.view k c.args.parts.now)) (sym c.in-Point.is)
    (points-near c.args.queried.now.scene.now.view c.args.queried.now.nearby c.args.parts.now c.points_near.result
    (c.points_near.ensures ∙ ap (λ view. points_near view c.args.parts.now c.args.queried.now.nearby) c.projection.ensures))
