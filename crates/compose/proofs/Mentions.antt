-- Layers that are chosen several times, and layers of which only the candidates are added.
use Rattle.std.proofs.Common.{◌≡◌, ◌∙◌, ℕ, ◌+◌, ◌<◌, Bool, true, false, cond, ◌||◌, ◌⊎◌, inl, inr, List, [], ◌∷◌, ◌++◌, length, get_or, take, reverse, Option, None, Some, refl, sym, ap, arith, ⊎_elim}
use Rattle.std.proofs.lemmas.Bool.{false≢true}
use Rattle.std.proofs.lemmas.Grind.{flat_map-append}
use Rattle.std.proofs.lemmas.List.{append-nil, append_assoc, take_more}
use Rattle.std.proofs.lemmas.Option.{slice_get-get_or}
use Rattle.std.specs.List.{Contains, flat_map, find, list_any}
use Rattle.std.specs.Option.{is_some, option_and_then, option_map_or}
use Rattle.std.specs.Prelude.{slice_get}
use Rattle.scaledenom.specs.Scale.{PictureScale}
use Rattle.labelcache.specs.Candidate.{CandidateValue}
use Rattle.mapdefs.proofs.Containing.{first_or}
use Rattle.scene.specs.Classes.{admits, is_visible_layer}
use Rattle.mapdefs.specs.Near.{AreCandidates}
use Rattle.mapdefs.specs.declared.class.ClassFields.{ClassFields}
use Rattle.mapdefs.specs.declared.feature.FeatureFields.{FeatureFields}
use Rattle.mapdefs.specs.declared.font.FontFields.{FontFields}
use Rattle.mapdefs.specs.declared.label.LabelFields.{LabelFields}
use Rattle.mapdefs.specs.declared.layer.LayerFields.{LayerFields}
use Rattle.mapdefs.specs.declared.colour.Rgb.{Rgb}
use Rattle.mapdefs.specs.declared.map.MapFields.{MapFields}
use Rattle.mapdefs.specs.declared.picture.PictureFields.{PictureFields}
use Rattle.scene.specs.Scene.{SceneValue}
use Rattle.viewport.specs.View.{IsView, ViewValue, window}
use Rattle.compose.specs.Anchor.{shown_anchor}
use Rattle.compose.specs.Drawn.{DrawingValue, IsDrawn, IsMentioned, with_candidates}
use Rattle.compose.specs.Labels.{candidate_at, candidate_list, has_label, if_written, label_text, classified_candidates}
use Rattle.canvas.specs.Shapes.{PaintedShape, colour_in, covers}
use Rattle.compose.specs.Paint.{chosen_shapes, paint_list}
use Rattle.canvas.specs.Painted.{IsPainted, colour_of, colour_at}
use Rattle.compose.specs.Picture.{LastMentionsPaintAll}
use Rattle.compose.specs.Walk.{ClassifiedFeatureValue, given_at, classified_chosen, classified_feature, classified_list}
use Rattle.compose.proofs.Classifying.{with-more, with-none}
use Rattle.compose.proofs.Found.{found-label-all}
use Rattle.canvas.proofs.Painting.{colour_at-append, painted-append, painted-none}
use Rattle.compose.proofs.Walking.{of-chosen, paint-list-of-classified}

-- of the chosen layers, the done ones have been mentioned, and the rest has not: what is painted are those that are kept, with which the rest
-- gives each pixel the colour that all chosen layers give it
pub record IsDrawnTo (scene : SceneValue) (chosen rest : List ℕ) (old new : DrawingValue) : Type 0 where
  pub done : List ℕ
  pub kept : List ℕ
  pub is : chosen ≡ done ++ rest
  pub painted : IsPainted old.canvas new.canvas (paint_list scene.view scene.scale scene.map kept)
  pub same : (background : Option Rgb) (i j : ℕ) →
      colour_at background (paint_list scene.view scene.scale scene.map (kept ++ rest)) i j ≡ colour_at background (paint_list scene.view scene.scale scene.map chosen) i j
  pub labelled : new.labels ≡ with_candidates old.labels (candidate_list scene.view scene.scale scene.map done)

-- shapes give a pixel the same colour over any background, or leave it as it is
abbrev Hides : List PaintedShape → ℕ → ℕ → Type 0
Hides shapes i j = (a b : Option Rgb) → colour_at a shapes i j ≡ colour_at b shapes i j

abbrev Leaves : List PaintedShape → ℕ → ℕ → Type 0
Leaves shapes i j = (a : Option Rgb) → colour_at a shapes i j ≡ a

hides-or-leaves : (shapes : List PaintedShape) (i j : ℕ) → Hides shapes i j ⊎ Leaves shapes i j
unfolding colour_at
hides-or-leaves shapes i j = go (find (λ shape. covers shape i j) (reverse shapes))
  where
    go : (o : Option PaintedShape) →
        ((a b : Option Rgb) → option_map_or (λ shape. colour_in shape i j) o a ≡ option_map_or (λ shape. colour_in shape i j) o b)
        ⊎ ((a : Option Rgb) → option_map_or (λ shape. colour_in shape i j) o a ≡ a)
    go None = inr (λ a. refl)
    go (Some shape) = inl (λ a b. refl)

-- where a layer hides what was there, a list that has it does too
hides-within : (view : ViewValue) (scale : PictureScale) (m : MapFields) (index i j : ℕ) → Hides (chosen_shapes view scale m index) i j →
    (after : List ℕ) → Contains after index → Hides (paint_list view scale m after) i j
hides-within view scale m index i j h [] c a b = absurd (omega (arith, c.1))
hides-within view scale m index i j h (x ∷ xs) c a b =
    let first = chosen_shapes view scale m x in
    let rest = paint_list view scale m xs in
    rw (colour_at-append a first rest i j, colour_at-append b first rest i j)
    (⊎_elim
    (λ (e : x ≡ index). ap (λ (z : Option Rgb). colour_at z rest i j) (rw e (h a b)))
    (λ (d : Contains xs index). hides-within view scale m index i j h xs d (colour_at a first i j) (colour_at b first i j))
    (first_or x index xs c))

pub last-mentions-paint-all : LastMentionsPaintAll
last-mentions-paint-all view scale m before index after background i j c =
    let shapes = chosen_shapes view scale m in
    let early = flat_map shapes before in
    let one = shapes index in
    let late = flat_map shapes after in
    let under = colour_at background early i j in
    rw (
      flat_map-append shapes before (index ∷ after),
      flat_map-append shapes before after,
      colour_at-append background early (one ++ late) i j,
      colour_at-append background early late i j,
      colour_at-append under one late i j,
    )
    (⊎_elim
    (λ (h : Hides one i j). hides-within view scale m index i j h after c (colour_at under one i j) under)
    (λ (l : Leaves one i j). ap (λ (z : Option Rgb). colour_at z late i j) (l under))
    (hides-or-leaves one i j))

-- what gives each pixel the same colour is painted as well
painted-as : (a b : PictureFields) (xs ys : List PaintedShape) → ((background : Option Rgb) (i j : ℕ) → colour_at background xs i j ≡ colour_at background ys i j) →
    IsPainted a b xs → IsPainted a b ys
painted-as a b xs ys same p = record {
  width = p.width;
  height = p.height;
  area = p.area;
  pixels = λ at h. p.pixels at h ∙ same (colour_of a.pixels at) _ _;
}

-- before the first layer
pub drawn-to-first : (scene : SceneValue) (chosen : List ℕ) (a : DrawingValue) → IsDrawnTo scene chosen chosen a a
drawn-to-first scene chosen a = record {
  done = [];
  kept = [];
  is = refl;
  painted = painted-none a.canvas;
  same = λ background i j. refl;
  labelled = with-none a.labels;
}

-- the candidates of one more layer
labelled-more : (scene : SceneValue) (done : List ℕ) (index : ℕ) (a b c : Option (List CandidateValue)) → b ≡ with_candidates a (candidate_list scene.view scene.scale scene.map done) →
    c ≡ with_candidates b (flat_map (classified_candidates scene.view scene.map.fonts) (classified_chosen scene.scale scene.map index)) →
    c ≡ with_candidates a (candidate_list scene.view scene.scale scene.map (done ++ index ∷ []))
labelled-more scene done index a b c p q =
    let candidates = classified_candidates scene.view scene.map.fonts in
    let classified = classified_chosen scene.scale scene.map in
    let early = flat_map candidates (flat_map classified done) in
    let one = flat_map candidates (classified index) in
    rw (flat_map-append classified done (index ∷ []), append-nil (classified index), flat_map-append candidates (flat_map classified done) (classified index))
    (q ∙ ap (λ (z : Option (List CandidateValue)). with_candidates z one) p ∙ with-more a early one)

pub drawn-to-next : (scene : SceneValue) (chosen : List ℕ) (index : ℕ) (after : List ℕ) (a b c : DrawingValue) → IsDrawnTo scene chosen (index ∷ after) a b →
    IsMentioned scene index after b c → IsDrawnTo scene chosen after a c
drawn-to-next scene chosen index after a b c p (inl again) = record {
  done = p.done ++ index ∷ [];
  kept = p.kept;
  is = p.is ∙ sym (append_assoc p.done (index ∷ []) after);
  painted = rw again.1.canvas p.painted;
  same = λ background i j. sym (last-mentions-paint-all scene.view scene.scale scene.map p.kept index after background i j again.0) ∙ p.same background i j;
  labelled = labelled-more scene p.done index a.labels b.labels c.labels p.labelled again.1.labelled;
}
drawn-to-next scene chosen index after a b c p (inr drawn) =
    let shapes = chosen_shapes scene.view scene.scale scene.map in
    let one = rw (← of-chosen scene.view scene.scale scene.map index) at drawn.painted in
    record {
      done = p.done ++ index ∷ [];
      kept = p.kept ++ index ∷ [];
      is = p.is ∙ sym (append_assoc p.done (index ∷ []) after);
      painted = rw (flat_map-append shapes p.kept (index ∷ []), append-nil (shapes index)) (painted-append a.canvas b.canvas c.canvas (flat_map shapes p.kept) (shapes index) p.painted one);
      same = λ background i j. rw (append_assoc p.kept (index ∷ []) after) (p.same background i j);
      labelled = labelled-more scene p.done index a.labels b.labels c.labels p.labelled drawn.labelled;
    }

-- after the last one all classified features are drawn
pub drawn-to-last : (scene : SceneValue) (chosen rest : List ℕ) (a b : DrawingValue) → length rest ≡ 0 → IsDrawnTo scene chosen rest a b →
    IsDrawn scene a b (classified_list scene.scale scene.map chosen)
drawn-to-last scene chosen (x ∷ xs) a b none p = absurd (omega (arith, none))
drawn-to-last scene chosen [] a b none p =
    let all = paint_list scene.view scene.scale scene.map chosen in
    let is = p.is ∙ append-nil p.done in
    record {
      painted = rw (← paint-list-of-classified scene.view scene.scale scene.map chosen)
          (painted-as a.canvas b.canvas (paint_list scene.view scene.scale scene.map p.kept) all (rw (append-nil p.kept) at p.same) p.painted);
      labelled = rw is p.labelled;
    }

-- a loop over what is found adds the candidates of each
pub labelled-next : {X : Type 0} (f : X → List ClassifiedFeatureValue) (g : ClassifiedFeatureValue → List CandidateValue) (xs : List X) (i : ℕ) (x : X) (a b c : List CandidateValue) → i < length xs → x ≡ get_or xs i x →
    b ≡ a ++ flat_map g (flat_map f (take i xs)) → c ≡ b ++ flat_map g (f x) → c ≡ a ++ flat_map g (flat_map f (take (i + 1) xs))
labelled-next f g xs i x a b c h e p q =
    let here : get_or xs i x ∷ [] ≡ x ∷ [] = ap (λ y. y ∷ []) (sym e) in
    let early = flat_map g (flat_map f (take i xs)) in
    rw (take_more xs i x h, here, flat_map-append f (take i xs) (x ∷ []), append-nil (f x), flat_map-append g (flat_map f (take i xs)) (f x))
    (q ∙ ap (λ (z : List CandidateValue). z ++ flat_map g (f x)) p ∙ append_assoc a early (flat_map g (f x)))

-- the index of an element instead of the element
pub labelled-at : {X : Type 0} (f : X → List ClassifiedFeatureValue) (g : ClassifiedFeatureValue → List CandidateValue) (xs : List X) (k : ℕ) (x : X) (b c : List CandidateValue) → k < length xs → x ≡ get_or xs k x →
    c ≡ b ++ flat_map g (f x) → c ≡ b ++ flat_map g (given_at f xs k)
labelled-at f g xs k x b c short is p = rw (slice_get-get_or xs k x short, ← is) p

-- a layer that doesn't show has no candidates
pub hidden-layer : (scene : SceneValue) (index : ℕ) (layer : LayerFields) (labels : List CandidateValue) → slice_get scene.map.layers index ≡ Some layer →
    is_visible_layer scene.scale layer ≡ false →
    labels ≡ labels ++ flat_map (classified_candidates scene.view scene.map.fonts) (classified_chosen scene.scale scene.map index)
hidden-layer scene index layer labels is hidden = rw (is, hidden) (sym (append-nil labels))

-- nor has a layer without a class that has a label
unlabelled-class : (view : ViewValue) (fonts : List FontFields) (classified : ClassifiedFeatureValue) → has_label classified.class ≡ false → classified_candidates view fonts classified ≡ []
unlabelled-class view fonts classified none = go classified.class.label none
  where
    go : (label : Option LabelFields) → is_some label ≡ false →
        option_map_or (λ l. option_map_or (candidate_at view.factor l (label_text classified.layer classified.feature)) (shown_anchor view classified.layer.kind classified.feature) []) (option_and_then (if_written fonts) label) [] ≡ []
    go None none = refl
    go (Some l) none = absurd (false≢true (sym none))

unlabelled-feature : (view : ViewValue) (fonts : List FontFields) (layer : LayerFields) (feature : FeatureFields) (f : ClassFields → Bool) (classes : List ClassFields) →
    list_any has_label classes ≡ false →
    flat_map (classified_candidates view fonts) (option_map_or (λ (class : ClassFields). record { layer = layer; feature = feature; class = class } ∷ []) (find f classes) []) ≡ []
unlabelled-feature view fonts layer feature f [] none = refl
unlabelled-feature view fonts layer feature f (c ∷ cs) none = go (f c) (unlabelled-feature view fonts layer feature f cs (later (has_label c) none))
  where
    here : (b : Bool) → (b || list_any has_label cs) ≡ false → b ≡ false
    here true h = h
    here false h = refl

    later : (b : Bool) → (b || list_any has_label cs) ≡ false → list_any has_label cs ≡ false
    later true h = absurd (false≢true (sym h))
    later false h = h

    go : (b : Bool) →
        flat_map (classified_candidates view fonts) (option_map_or (λ (class : ClassFields). record { layer = layer; feature = feature; class = class } ∷ []) (find f cs) []) ≡ [] →
        flat_map (classified_candidates view fonts) (option_map_or (λ (class : ClassFields). record { layer = layer; feature = feature; class = class } ∷ []) (cond b (Some c) (find f cs)) []) ≡ []
    go true rest = rw (unlabelled-class view fonts (record { layer = layer; feature = feature; class = c }) (here (has_label c) none)) refl
    go false rest = rest

unlabelled-features : (view : ViewValue) (fonts : List FontFields) (scale : PictureScale) (layer : LayerFields) (features : List FeatureFields) → list_any has_label layer.classes ≡ false →
    flat_map (classified_candidates view fonts) (flat_map (classified_feature scale layer) features) ≡ []
unlabelled-features view fonts scale layer [] none = refl
unlabelled-features view fonts scale layer (x ∷ xs) none =
    rw (
      flat_map-append (classified_candidates view fonts) (classified_feature scale layer x) (flat_map (classified_feature scale layer) xs),
      unlabelled-feature view fonts layer x (admits scale layer x) layer.classes none,
    ) (unlabelled-features view fonts scale layer xs none)

pub unlabelled-layer : (scene : SceneValue) (index : ℕ) (layer : LayerFields) (labels : List CandidateValue) → slice_get scene.map.layers index ≡ Some layer →
    is_visible_layer scene.scale layer ≡ true → list_any has_label layer.classes ≡ false →
    labels ≡ labels ++ flat_map (classified_candidates scene.view scene.map.fonts) (classified_chosen scene.scale scene.map index)
unlabelled-layer scene index layer labels is shown none =
    rw (is, shown, unlabelled-features scene.view scene.map.fonts scene.scale layer layer.features none) (sym (append-nil labels))

-- and a layer that shows has the candidates of what is found
pub found-layer : (scene : SceneValue) (index : ℕ) (layer : LayerFields) (found : List ℕ) (a b : List CandidateValue) → slice_get scene.map.layers index ≡ Some layer →
    is_visible_layer scene.scale layer ≡ true → IsView scene.view →
    AreCandidates layer.features (window scene.view 0) found →
    b ≡ a ++ flat_map (classified_candidates scene.view scene.map.fonts) (flat_map (given_at (classified_feature scene.scale layer) layer.features) found) →
    b ≡ a ++ flat_map (classified_candidates scene.view scene.map.fonts) (classified_chosen scene.scale scene.map index)
found-layer scene index layer found a b is shown limits are p =
    rw (is, shown) (p ∙ ap (λ (z : List CandidateValue). a ++ z) (found-label-all scene.view 0 scene.scale scene.map.fonts layer found limits are))
