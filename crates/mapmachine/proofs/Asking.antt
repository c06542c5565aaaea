-- The hits of the layers whose features are requested, one layer after another.
use Rattle.std.proofs.Common.{◌≡◌, ℕ, suc, ◌+◌, ◌<◌, List, [], ◌∷◌, ◌++◌, length, take, slice_index_or, refl, sym, subst, arith}
use Rattle.std.proofs.Math.Seq.{take-suc}
use Rattle.std.proofs.lemmas.List.Elements.{All-cons, All-nil}
use Rattle.std.specs.List.{All, AllZip}
use Rattle.featureinfo.specs.Hits.{AreHitsOf}
use Rattle.featureinfo.specs.declared.layer_hits.LayerHits.{LayerHits}
use Rattle.mapdefs.specs.declared.map.MapFields.{MapFields}
use Rattle.mapmachine.specs.Machine.{AreAskedHits, scene_of}
use Rattle.wmsquery.specs.declared.request.InformationRequest.{InformationRequest}

-- one more item on each side
zip-push : {A B : Type 0} (R : A → B → Type 0) (xs : List A) (ys : List B) (x : A) (y : B) → AllZip R xs ys → R x y → AllZip R (xs ++ x ∷ []) (ys ++ y ∷ [])
zip-push R [] [] x y zip one = (one, tt)
zip-push R [] (b ∷ ys) x y zip one = absurd zip
zip-push R (a ∷ xs) [] x y zip one = absurd zip
zip-push R (a ∷ xs) (b ∷ ys) x y zip one = (zip.0, zip-push R xs ys x y zip.1 one)

-- the hits of the next layer come after those of the layers before it
pub next-hits : (R : ℕ → LayerHits → Type 0) (asked items : List ℕ) (index : ℕ) (found : List LayerHits) (hits : LayerHits) →
    items ≡ asked → index < length items → AllZip R (take index asked) found → R (slice_index_or items index 0) hits →
    AllZip R (take (index + 1) asked) (found ++ hits ∷ [])
next-hits R asked items index found hits same within zip one =
    let next : index + 1 ≡ suc index = omega arith in
    let at : R (slice_index_or asked index 0) hits = subst (λ (l : List ℕ). R (slice_index_or l index 0) hits) same one in
    let below : index < length asked = subst (λ (l : List ℕ). index < length l) same within in
    subst (λ (n : ℕ). AllZip R (take n asked) (found ++ hits ∷ [])) (sym next)
    (subst (λ (l : List ℕ). AllZip R l (found ++ hits ∷ [])) (sym (take-suc asked index 0 below))
    (zip-push R (take index asked) found (slice_index_or asked index 0) hits zip at))

-- the hits that were found are each of their own layer
pub own-hits : (map : MapFields) (request : InformationRequest) (asked : List ℕ) (found : List LayerHits) →
    AllZip (AreAskedHits map request) asked found → All (λ h. AreAskedHits map request h.layer h) found
own-hits map request [] [] zip = All-nil (λ h. AreAskedHits map request h.layer h)
own-hits map request [] (h ∷ found) zip = absurd zip
own-hits map request (a ∷ asked) [] zip = absurd zip
own-hits map request (a ∷ asked) (h ∷ found) zip =
    All-cons (λ h. AreAskedHits map request h.layer h) h found
    (refl, subst (λ (index : ℕ). AreHitsOf (scene_of map request.map) index request.column request.row request.count h.features) (sym zip.0.0) zip.0.1)
    (own-hits map request asked found zip.1)
