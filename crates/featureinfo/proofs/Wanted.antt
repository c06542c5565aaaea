-- Which candidates are hit.
use Rattle.std.proofs.Common.{◌≡◌, ◌∙◌, ◌↔◌, ℕ, Bool, true, false, Some, refl, sym, subst, IsTrue}
use Rattle.std.proofs.lemmas.Option.{same_Some}
use Rattle.std.specs.List.{slice_get}
use Rattle.scene.specs.Classes.{is_visible_layer}
use Rattle.mapdefs.specs.declared.feature.FeatureFields.{FeatureFields}
use Rattle.mapdefs.specs.declared.layer.LayerFields.{LayerFields}
use Rattle.scene.specs.Scene.{SceneValue}
use Rattle.featureinfo.specs.Hits.{IsClassedNear, IsHitAt, covers_plainly}
use Rattle.featureinfo.specs.Nearby.{SomeNear, nearby_of}
use Rattle.featureinfo.specs.declared.nearby.Nearby.{Nearby}

module _ (scene : SceneValue) (layer : LayerFields) (i j index : ℕ) (n : Nearby) (feature : FeatureFields)
    (is : n ≡ nearby_of scene.view.width scene.view.height layer.tolerance i j) (there : slice_get layer.features index ≡ Some feature) (hit : Bool) (says : IsTrue hit ↔ IsClassedNear scene layer n feature) where
  from-hit : hit ≡ true → IsTrue hit
  from-hit e = rw e refl

  pub is-wanted : is_visible_layer scene.scale layer ≡ true → hit ≡ true → IsHitAt scene layer i j index
  is-wanted shows e =
      let classed = says.0 (from-hit e) in (
        feature,
        there,
        record {
          shows = shows;
          class = classed.class;
          near = subst (λ (m : Nearby). SomeNear m (covers_plainly scene.view layer.kind feature.parts)) is classed.near;
        },
      )

  clash : hit ≡ false → IsTrue hit → ⊥
  clash e t = cc

  pub not-wanted : hit ≡ false → IsHitAt scene layer i j index → ⊥
  not-wanted e (other, at, facts) =
      let same : other ≡ feature = same_Some other feature (sym at ∙ there) in
      clash e (says.1 (record {
        class = rw same at facts.class;
        near = subst (λ (m : Nearby). SomeNear m (covers_plainly scene.view layer.kind feature.parts)) (sym is) (rw same at facts.near);
      }))
