-- Drawing one feature after another.
use Rattle.std.proofs.Common.{◌≡◌, ◌∙◌, ℕ, ◌+◌, ◌<◌, List, [], ◌∷◌, ◌++◌, length, get_or, take, Option, None, Some, refl, sym, ap}
use Rattle.std.proofs.lemmas.Grind.{flat_map-append}
use Rattle.std.proofs.lemmas.List.{append-nil, append_assoc, take_more}
use Rattle.std.specs.List.{flat_map}
use Rattle.labelcache.specs.Candidate.{CandidateValue}
use Rattle.scene.specs.Scene.{SceneValue}
use Rattle.compose.specs.Drawn.{DrawingValue, IsDrawn, with_candidates}
use Rattle.compose.specs.Labels.{classified_candidates}
use Rattle.compose.specs.Walk.{ClassifiedFeatureValue, classified_shapes}
use Rattle.canvas.proofs.Painting.{painted-append, painted-none}

-- no candidate more
pub with-none : (labels : Option (List CandidateValue)) → labels ≡ with_candidates labels []
with-none None = refl
with-none (Some labels) = ap Some (sym (append-nil labels))

-- candidates, and then more
pub with-more : (labels : Option (List CandidateValue)) (xs ys : List CandidateValue) → with_candidates (with_candidates labels xs) ys ≡ with_candidates labels (xs ++ ys)
with-more None xs ys = refl
with-more (Some labels) xs ys = ap Some (append_assoc labels xs ys)

-- where no feature is classified, all stays
pub drawn-none : (scene : SceneValue) (a : DrawingValue) → IsDrawn scene a a []
drawn-none scene a = record { painted = painted-none a.canvas; labelled = with-none a.labels }

-- drawing goes on
pub drawn-append : (scene : SceneValue) (a b c : DrawingValue) (xs ys : List ClassifiedFeatureValue) → IsDrawn scene a b xs → IsDrawn scene b c ys → IsDrawn scene a c (xs ++ ys)
drawn-append scene a b c xs ys p q =
    let shapes = classified_shapes scene.view scene.map.symbols in
    let candidates = classified_candidates scene.view scene.map.fonts in
    record {
      painted = rw (flat_map-append shapes xs ys) (painted-append a.canvas b.canvas c.canvas (flat_map shapes xs) (flat_map shapes ys) p.painted q.painted);
      labelled = rw (flat_map-append candidates xs ys)
          (q.labelled ∙ ap (λ (z : Option (List CandidateValue)). with_candidates z (flat_map candidates ys)) p.labelled ∙ with-more a.labels (flat_map candidates xs) (flat_map candidates ys));
    }

-- a loop that draws the classified features of each element: one more element
pub drawn-next : {X : Type 0} (scene : SceneValue) (f : X → List ClassifiedFeatureValue) (xs : List X) (i : ℕ) (x : X) (a b c : DrawingValue) → i < length xs → x ≡ get_or xs i x →
    IsDrawn scene a b (flat_map f (take i xs)) → IsDrawn scene b c (f x) → IsDrawn scene a c (flat_map f (take (i + 1) xs))
drawn-next scene f xs i x a b c h e p q =
    let here : get_or xs i x ∷ [] ≡ x ∷ [] = ap (λ y. y ∷ []) (sym e) in
    rw (take_more xs i x h, here, flat_map-append f (take i xs) (x ∷ []), append-nil (f x)) (drawn-append scene a b c (flat_map f (take i xs)) (f x) p q)
