use Rattle.std.proofs.Common.{◌≡◌, ◌∙◌, true, false, List, ap, sym}
use Rattle.geom.specs.World.{Place}
use Rattle.featureinfo.specs.Reach.{is_far}
use Rattle.featureinfo.proofs.Reaching.{not-far}
use Rattle.featureinfo.proofs.layer_hits.is_classed_near.Goals as goal

-- a feature that is far is not near
pub returns-then-is_far : goal.returns-then-is_far
returns-then-is_far c = (
  λ t. absurd (cc),
  λ hit.
      let near = hit.near in
      let clash : true ≡ false =
      sym c.if-is_far.true ∙ c.is_far.ensures ∙ ap (λ view. is_far view c.as_slice-parts.result.now c.args.queried.now.nearby) c.projection.ensures
      ∙ ap (λ (parts : List (List Place)). is_far c.args.queried.now.scene.now.view parts c.args.queried.now.nearby) c.as_slice-parts.ensures
      ∙ not-far c.args.queried.now.scene.now.view c.args.layer.now.kind c.args.feature.now.parts c.args.queried.now.nearby near.column near.row (record { left = near.left; right = near.right; top = near.top; bottom = near.bottom }) near.passes in
      absurd (cc),
)
