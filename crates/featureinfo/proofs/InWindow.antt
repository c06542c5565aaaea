-- A feature near the queried pixel has its box in the window, so the candidates include all hits.
use Rattle.std.proofs.Common.{◌≡◌, ◌∙◌, ℕ, ◌+◌, ◌*◌, ◌≤◌, true, false, List, [], sym, arith}
use Rattle.std.proofs.Math.Nat.{min-le_right}
use Rattle.std.proofs.lemmas.Int.{ints}
use Rattle.std.proofs.lemmas.List.Folds.{Any-from_list_any}
use Rattle.std.specs.List.{Any}
use lib.IntN.{pos, neg_ℤ, ◌-ℤ◌}
use lib.Signed.{◌<ℤ◌, ◌≤ℤ◌}
use Rattle.geom.proofs.Products.{le_of}
use Rattle.geom.specs.World.{Place}
use Rattle.scene.specs.Classes.{is_visible_layer}
use Rattle.mapdefs.specs.Near.{AreCandidates, HasBoxIn, points_of}
use Rattle.mapdefs.specs.declared.feature.FeatureFields.{FeatureFields}
use Rattle.mapdefs.specs.declared.layer.Geometry.{Geometry}
use Rattle.mapdefs.specs.declared.layer.LayerFields.{LayerFields}
use Rattle.scene.specs.Scene.{SceneValue}
use Rattle.viewport.specs.View.{IsView, ViewValue, device_point, window}
use Rattle.mapdefs.proofs.Containing.{any-weaker}
use Rattle.vertices.proofs.NearBoxes.{AreRound, box-in}
use Rattle.featureinfo.specs.Hits.{AreFirstAmong, AreHits, IsHitAt, HasNearPixel}
use Rattle.featureinfo.specs.Nearby.{nearby_of}
use Rattle.featureinfo.specs.Reach.{is_within, limit_of}
use Rattle.featureinfo.specs.declared.nearby.Nearby.{Nearby}
use Rattle.featureinfo.specs.declared.side.Side.{Side}
use Rattle.featureinfo.specs.declared.side.Side.TheVariants.{Right, Left, Bottom, Top}
use Rattle.featureinfo.proofs.Reaching.{all-reach, nested}

module _ (view : ViewValue) (k : Geometry) (tolerance i j : ℕ) (feature : FeatureFields) (near : HasNearPixel view k tolerance i j feature) where
  -- some vertex doesn't lie beyond that side
  vertex-on : (side : Side) → Any (λ (q : Place). is_within side (limit_of (nearby_of view.width view.height tolerance i j) side) (device_point view q) ≡ true) (points_of feature)
  vertex-on side =
      let n : Nearby = nearby_of view.width view.height tolerance i j in
      Any-from_list_any (λ (q : Place). is_within side (limit_of n side) (device_point view q)) (points_of feature)
      (sym (nested (λ (q : Place). is_within side (limit_of n side) (device_point view q)) feature.parts)
      ∙ all-reach view k feature.parts n near.column near.row (record { left = near.left; right = near.right; top = near.top; bottom = near.bottom }) near.passes side)

  round : AreRound view (tolerance + 1) (points_of feature)
  round =
      let n : Nearby = nearby_of view.width view.height tolerance i j in
      let wide : n.right ≤ view.width = min-le_right (i + tolerance + 1) view.width in
      let high : n.bottom ≤ view.height = min-le_right (j + tolerance + 1) view.height in
      record {
        right = any-weaker (λ (q : Place). is_within Right (limit_of n Right) (device_point view q) ≡ true) (λ (q : Place). (device_point view q).x <ℤ pos (16 * (view.width + (tolerance + 1)))) (points_of feature)
            (λ (q : Place) h. omega (arith, ints, wide, le_of (device_point view q).x (pos (16 * n.right + 8)) h)) (vertex-on Right);
        left = any-weaker (λ (q : Place). is_within Left (limit_of n Left) (device_point view q) ≡ true) (λ (q : Place). neg_ℤ (pos (16 * (tolerance + 1))) ≤ℤ (device_point view q).x) (points_of feature)
            (λ (q : Place) h. omega (arith, ints, le_of (pos (16 * n.left) -ℤ pos 8) (device_point view q).x h)) (vertex-on Left);
        bottom = any-weaker (λ (q : Place). is_within Bottom (limit_of n Bottom) (device_point view q) ≡ true) (λ (q : Place). (device_point view q).y <ℤ pos (16 * (view.height + (tolerance + 1)))) (points_of feature)
            (λ (q : Place) h. omega (arith, ints, high, le_of (device_point view q).y (pos (16 * n.bottom + 8)) h)) (vertex-on Bottom);
        top = any-weaker (λ (q : Place). is_within Top (limit_of n Top) (device_point view q) ≡ true) (λ (q : Place). neg_ℤ (pos (16 * (tolerance + 1))) ≤ℤ (device_point view q).y) (points_of feature)
            (λ (q : Place) h. omega (arith, ints, le_of (pos (16 * n.top) -ℤ pos 8) (device_point view q).y h)) (vertex-on Top);
      }

  pub in-window : IsView view → HasBoxIn (window view (tolerance + 1)) feature
  in-window limits = box-in view (tolerance + 1) (points_of feature) limits round

module _ (scene : SceneValue) (layer : LayerFields) (i j count : ℕ) where
  -- the first hits among the candidates are the first of all
  pub first-of-all : (found hits : List ℕ) → IsView scene.view →
      AreCandidates layer.features (window scene.view (layer.tolerance + 1)) found → AreFirstAmong (IsHitAt scene layer i j) count found hits → AreHits scene layer i j count hits
  first-of-all found hits limits candidates first = record {
    rising = first.rising;
    each = λ k c. (first.each k c).1;
    few = first.few;
    others = λ k hit. let (feature, there, facts) = hit in
        first.others k (candidates.each k feature there (in-window scene.view layer.kind layer.tolerance i j feature facts.near limits), hit);
  }

  -- a layer that doesn't show has no hits
  pub none-shown : is_visible_layer scene.scale layer ≡ false → AreHits scene layer i j count []
  none-shown hidden = record {
    rising = λ a b e lt within. absurd (omega arith);
    each = λ k c. absurd (omega (arith, c.1));
    few = omega arith;
    others = λ k hit. let (feature, there, facts) = hit in absurd (clash (sym hidden ∙ facts.shows));
  }
    where
      clash : false ≡ true → ⊥
      clash e = cc
