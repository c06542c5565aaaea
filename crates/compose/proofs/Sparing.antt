-- Painting what is found of a layer paints the layer.
use Rattle.std.proofs.Common.{◌≡◌, ◌∙◌, ℕ, ◌*◌, ◌/◌, ◌%◌, ◌<◌, List, length, get_or, Some, ap, arith}
use Rattle.std.proofs.lemmas.Nat.{div_below}
use Rattle.std.proofs.lemmas.Option.{slice_get-get_or}
use Rattle.std.specs.List.{flat_map}
use Rattle.std.specs.Prelude.{slice_get}
use Rattle.scaledenom.specs.Scale.{PictureScale}
use Rattle.geom.specs.World.{Area}
use Rattle.mapdefs.specs.Near.{AreCandidates, AreCandidatesOf}
use Rattle.mapdefs.specs.declared.layer.LayerFields.{LayerFields}
use Rattle.mapdefs.specs.declared.map.MapFields.{MapFields}
use Rattle.mapdefs.specs.declared.picture.PictureFields.{PictureFields}
use Rattle.mapdefs.specs.declared.symbol.Symbol.{Symbol}
use Rattle.viewport.specs.View.{IsView, ViewValue, window}
use Rattle.compose.specs.Near.{margin_of}
use Rattle.compose.specs.Drawn.{DrawingValue, IsDrawn, with_candidates}
use Rattle.compose.specs.Walk.{ClassifiedFeatureValue, given_at, classified_chosen, classified_feature, classified_layer, classified_shapes}
use Rattle.labelcache.specs.Candidate.{CandidateValue}
use Rattle.scene.specs.Scene.{SceneValue}
use Rattle.compose.proofs.Found.{found-label-all, given-nested}
use Rattle.compose.proofs.Walking.{nested, of-feature}
use Rattle.compose.specs.Paint.{feature_shapes}
use Rattle.canvas.specs.Painted.{IsPainted, colour_of}
use Rattle.compose.proofs.Candidates.{paint-all}
use Rattle.compose.proofs.NearThings.{paints-near}

-- the classified features of an element are those of its index
pub drawn-at : {X : Type 0} (scene : SceneValue) (f : X → List ClassifiedFeatureValue) (xs : List X) (k : ℕ) (x : X) (a b : DrawingValue) → k < length xs → x ≡ get_or xs k x →
    IsDrawn scene a b (f x) → IsDrawn scene a b (given_at f xs k)
drawn-at scene f xs k x a b short is p = rw (slice_get-get_or xs k x short, ← is) p

-- the candidates of a layer in a map are those of the layer
pub candidates-of : (m : MapFields) (index : ℕ) (layer : LayerFields) (w : Area) (found : List ℕ) → slice_get m.layers index ≡ Some layer →
    AreCandidatesOf m index w found → AreCandidates layer.features w found
candidates-of m index layer w found is are = rw is at are

-- the remainder and the quotient of an index of a pixel are its column and its row
column-below : (at w : ℕ) → 0 < w → at % w < w
column-below at w some = omega arith

-- the candidates in the window of a layer's margin paint what all its features do
pub spared : (view : ViewValue) (scale : PictureScale) (symbols : List Symbol) (layer : LayerFields) (found : List ℕ) (a b : PictureFields) →
    IsView view → a.width ≡ view.width → a.height ≡ view.height → length a.pixels ≡ a.width * a.height →
    AreCandidates layer.features (window view (margin_of view.factor symbols layer)) found →
    IsPainted a b (flat_map (given_at (feature_shapes view scale symbols layer) layer.features) found) →
    IsPainted a b (flat_map (feature_shapes view scale symbols layer) layer.features)
spared view scale symbols layer found a b limits wide high area are p = record {
  width = p.width;
  height = p.height;
  area = p.area;
  pixels = λ at h.
      let some : 0 < a.width = omega (arith, wide, limits.across.some) in
      let column : at % a.width < view.width = omega (arith, wide, column-below at a.width some) in
      let row : at / a.width < view.height = omega (arith, high, div_below at a.width a.height some (omega (arith, area, h))) in
      p.pixels at h
      ∙ paint-all (feature_shapes view scale symbols layer) layer.features found (colour_of a.pixels at) (at % a.width) (at / a.width) are.rising are.indices
      (λ k feature is covered. are.each k feature is (paints-near view scale symbols layer feature (at % a.width) (at / a.width) limits column row covered));
}

-- and they give the same candidates for labels, so that drawing what is found draws all
pub spared-drawing : (scene : SceneValue) (layer : LayerFields) (found : List ℕ) (a b : DrawingValue) →
    IsView scene.view →
    a.canvas.width ≡ scene.view.width → a.canvas.height ≡ scene.view.height → length a.canvas.pixels ≡ a.canvas.width * a.canvas.height →
    AreCandidates layer.features (window scene.view (margin_of scene.view.factor scene.map.symbols layer)) found →
    IsDrawn scene a b (flat_map (given_at (classified_feature scene.scale layer) layer.features) found) →
    IsDrawn scene a b (flat_map (classified_feature scene.scale layer) layer.features)
spared-drawing scene layer found a b limits wide high area are p =
    let view = scene.view in
    let symbols = scene.map.symbols in
    let shapes = classified_shapes view symbols in
    let painted = feature_shapes view scene.scale symbols layer in
    let same = of-feature view scene.scale symbols layer in
    record {
      painted = rw (← nested shapes (classified_feature scene.scale layer) painted same layer.features)
          (spared view scene.scale symbols layer found a.canvas b.canvas limits wide high area are
          (rw (← given-nested shapes (classified_feature scene.scale layer) painted same layer.features found) at p.painted));
      labelled = p.labelled
          ∙ ap (λ (z : List CandidateValue). with_candidates a.labels z)
          (found-label-all view (margin_of view.factor symbols layer) scene.scale scene.map.fonts layer found limits are);
    }

-- the classified features of a layer are those of its index in the map
pub drawn-chosen : (scene : SceneValue) (index : ℕ) (layer : LayerFields) (a b : DrawingValue) → slice_get scene.map.layers index ≡ Some layer →
    IsDrawn scene a b (classified_layer scene.scale layer) → IsDrawn scene a b (classified_chosen scene.scale scene.map index)
drawn-chosen scene index layer a b e p = rw e p
