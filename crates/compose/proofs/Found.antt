-- The candidates for labels of what is found are those of all features.
use Rattle.std.proofs.Common.{◌≡◌, ◌∙◌, ℕ, suc, ◌+◌, ◌<◌, ◌≤◌, ◌⊎◌, inl, inr, List, [], ◌∷◌, ◌++◌, Option, None, Some, All, length, nat_cmp, refl, sym, ap, arith, ⊎_elim}
use Rattle.std.proofs.lemmas.Bool.{cases_eq}
use Rattle.std.proofs.lemmas.List.Elements.{All-contains}
use Rattle.std.proofs.lemmas.Map.Keys.{sorted_from_strictly_increasing, sorted_tail}
use Rattle.std.specs.List.{Contains, flat_map, slice_get}
use Rattle.std.specs.List.Sorted.{IsStrictlyIncreasing, IsStrictlySortedBy}
use Rattle.std.specs.Option.{option_map_or}
use Rattle.geom.specs.Device.{PixelValue}
use Rattle.scene.specs.Classes.{class_of}
use Rattle.mapdefs.specs.Near.{HasBoxIn}
use Rattle.mapdefs.specs.declared.class.ClassFields.{ClassFields}
use Rattle.mapdefs.specs.declared.feature.FeatureFields.{FeatureFields}
use Rattle.mapdefs.specs.declared.font.FontFields.{FontFields}
use Rattle.mapdefs.specs.declared.label.LabelFields.{LabelFields}
use Rattle.mapdefs.specs.declared.layer.LayerFields.{LayerFields}
use Rattle.viewport.specs.View.{IsView, ViewValue, window}
use Rattle.compose.specs.Anchor.{shown_anchor}
use Rattle.compose.specs.Labels.{FoundLabelAll, candidate_at, label_text, written_label, classified_candidates}
use Rattle.compose.specs.Walk.{given_at, classified_feature}
use Rattle.geom.proofs.Rising.{first-least, first-below}
use Rattle.compose.proofs.Candidates.{AreFrom, at-start, one-on}
use Rattle.mapdefs.proofs.Containing.{first_or}
use Rattle.vertices.proofs.Finding.{here, there}
use Rattle.compose.proofs.NearAnchors.{anchors-near}
use Rattle.compose.proofs.Walking.{nested}

-- each index between two that isn't found gives nothing
abbrev GiveNothing : {Y : Type 0} → (ℕ → List Y) → ℕ → ℕ → List ℕ → Type 0
GiveNothing h from past found = (k : ℕ) → from ≤ k → k < past → (Contains found k → ⊥) → h k ≡ []

-- from an index on: what each index that is found gives is what the elements give
all-from : {X Y : Type 0} (f : X → List Y) (h : ℕ → List Y) (xs : List X) (from past : ℕ) (found : List ℕ) →
    past ≡ from + length xs → ((k : ℕ) (x : X) → slice_get xs k ≡ Some x → h (from + k) ≡ f x) → IsStrictlySortedBy nat_cmp found → AreFrom from past found →
    GiveNothing h from past found → flat_map h found ≡ flat_map f xs
all-from f h [] from past [] e link rising within nothing = refl
all-from f h [] from past (y ∷ ys) e link rising within nothing = let w = within y (here y ys) in absurd (omega (arith, w.0, w.1, e))
all-from {X} f h (x ∷ xs) from past [] e link rising within nothing =
    let next : (k : ℕ) (z : X) → slice_get xs k ≡ Some z → h (from + 1 + k) ≡ f z = λ k z s. one-on h (f z) from k (link (suc k) z s) in
    let none : f x ≡ [] = sym (at-start h (f x) from (link 0 x refl)) ∙ nothing from (omega arith) (omega (arith, e)) (λ c. absurd (omega (arith, c.1))) in
    rw none (all-from f h xs (from + 1) past [] (omega (arith, e)) next rising (λ k c. absurd (omega (arith, c.1))) (λ k low high n. nothing k (omega (arith, low)) high n))
all-from {X} f h (x ∷ xs) from past (y ∷ ys) e link rising within nothing =
    let next : (k : ℕ) (z : X) → slice_get xs k ≡ Some z → h (from + 1 + k) ≡ f z = λ k z s. one-on h (f z) from k (link (suc k) z s) in
    let start : h from ≡ f x = at-start h (f x) from (link 0 x refl) in
    elim (cases_eq y from) [
      | inl same ↦ (
          let rising' : IsStrictlySortedBy nat_cmp (from ∷ ys) = rw same at rising in
          let within' : AreFrom from past (from ∷ ys) = rw same at within in
          let nothing' : GiveNothing h from past (from ∷ ys) = rw same at nothing in
          rw (same, start)
          (ap (λ zs. f x ++ zs) (all-from f h xs (from + 1) past ys (omega (arith, e)) next (sorted_tail nat_cmp from ys rising')
          (λ k c. (omega (arith, first-below from ys k rising' c), (within' k (there from k ys c)).1))
          (λ k low high n. nothing' k (omega (arith, low)) high (λ c. ⊎_elim (λ (d : from ≡ k). absurd (omega (arith, low, d))) n (first_or from k ys c))))))
      | inr other ↦ (
          let far : Contains (y ∷ ys) from → ⊥ = λ c. other (omega (arith, first-least y ys from rising c, (within y (here y ys)).0)) in
          let none : f x ≡ [] = sym start ∙ nothing from (omega arith) (omega (arith, e)) far in
          rw none
          (all-from f h xs (from + 1) past (y ∷ ys) (omega (arith, e)) next rising
          (λ k c. let w = within k c in (omega (arith, w.0, ⊎_elim (λ (d : k ≡ from). absurd (far (rw d at c))) (λ (d : k ≡ from → ⊥). d) (cases_eq k from)), w.1))
          (λ k low high n. nothing k (omega (arith, low)) high n)))
    ]

-- what the indices give that are found is what all elements give, where the others give nothing
pub found-all : {X Y : Type 0} (f : X → List Y) (xs : List X) (found : List ℕ) → IsStrictlyIncreasing found → All (λ k. k < length xs) found →
    ((k : ℕ) (x : X) → slice_get xs k ≡ Some x → (Contains found k → ⊥) → f x ≡ []) → flat_map (given_at f xs) found ≡ flat_map f xs
found-all {X} {Y} f xs found rising indices nothing =
    all-from f (given_at f xs) xs 0 (length xs) found (omega arith) (λ k x s. ap (λ (n : ℕ). given_at f xs n) (none k) ∙ rw s refl)
    (sorted_from_strictly_increasing found rising)
    (λ k c. (omega arith, All-contains (λ (n : ℕ). n < length xs) found k indices c))
    (λ k low high n. missed k (slice_get xs k) refl n)
  where
    none : (k : ℕ) → 0 + k ≡ k
    none k = omega arith

    missed : (k : ℕ) (o : Option X) → slice_get xs k ≡ o → (Contains found k → ⊥) → given_at f xs k ≡ []
    missed k None e n = rw e refl
    missed k (Some x) e n = rw e (nothing k x e n)

-- a feature gives no candidate, or has its box in the window
module _ (view : ViewValue) (margin : ℕ) (layer : LayerFields) (feature : FeatureFields) (limits : IsView view) where
  by-anchor : (label : LabelFields) (o : Option PixelValue) → shown_anchor view layer.kind feature ≡ o →
      (option_map_or (candidate_at view.factor label (label_text layer feature)) o [] ++ [] ≡ []) ⊎ HasBoxIn (window view margin) feature
  by-anchor label None e = inl refl
  by-anchor label (Some p) e = inr (anchors-near view margin layer.kind feature p limits e)

  by-label : (o : Option LabelFields) →
      (option_map_or (λ label. option_map_or (candidate_at view.factor label (label_text layer feature)) (shown_anchor view layer.kind feature) []) o [] ++ [] ≡ []) ⊎ HasBoxIn (window view margin) feature
  by-label None = inl refl
  by-label (Some label) = by-anchor label (shown_anchor view layer.kind feature) refl

  by-class : (fonts : List FontFields) (o : Option ClassFields) →
      (flat_map (classified_candidates view fonts) (option_map_or (λ (class : ClassFields). record { layer = layer; feature = feature; class = class } ∷ []) o []) ≡ []) ⊎ HasBoxIn (window view margin) feature
  by-class fonts None = inl refl
  by-class fonts (Some class) = by-label (written_label fonts class)

-- what the element of an index gives, in two steps
pub given-nested : {X Y Z : Type 0} (f : Y → List Z) (g : X → List Y) (h : X → List Z) → ((x : X) → h x ≡ flat_map f (g x)) → (xs : List X) (found : List ℕ) →
    flat_map (given_at h xs) found ≡ flat_map f (flat_map (given_at g xs) found)
given-nested {X} {Y} {Z} f g h same xs found = nested f (given_at g xs) (given_at h xs) (λ k. go (slice_get xs k)) found
  where
    go : (o : Option X) → option_map_or h o [] ≡ flat_map f (option_map_or g o [])
    go None = refl
    go (Some x) = same x

pub found-label-all : FoundLabelAll
found-label-all view margin scale fonts layer found limits are =
    let candidates = classified_candidates view fonts in
    let each = λ (feature : FeatureFields). flat_map candidates (classified_feature scale layer feature) in
    sym (given-nested candidates (classified_feature scale layer) each (λ feature. refl) layer.features found)
    ∙ (found-all each layer.features found are.rising are.indices
    (λ k feature is missed. ⊎_elim (λ (e : each feature ≡ []). e) (λ (meets : HasBoxIn (window view margin) feature). absurd (missed (are.each k feature is meets)))
    (by-class view margin layer feature limits fonts (class_of scale layer feature)))
    ∙ nested candidates (classified_feature scale layer) each (λ feature. refl) layer.features)
