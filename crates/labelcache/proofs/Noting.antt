-- The anchors that are kept of texts, where one is added.
use Rattle.std.proofs.Common.{◌≡◌, ℕ, Bool, true, false, cond, List, [], ◌∷◌, ◌++◌, map, Option, Some, Result, Ok, Err, OnOk, OnErr, refl, ap, sym, ◌∙◌, rules, if◌then◌else◌}
use Rattle.std.proofs.lemmas.Map.Text.{btree_map_updates_text}
use Rattle.std.proofs.lemmas.Slice.Eq.{bytes_eq-Decides}
use Rattle.std.specs.BTreeMap.{BTreeMap, UpdatesBy, get_by_text}
use Rattle.std.specs.Cmp.Lexicographic.{slice_cmp}
use Rattle.std.specs.List.{filter}
use Rattle.std.specs.Option.{option_map_or}
use Rattle.std.specs.Ordering.{nat_cmp}
use Rattle.std.specs.Str.{bytes_eq}
use Rattle.std.specs.String.{string_bytes, string_cmp}
use Rattle.std.specs.declared.string.String.{String}
use Rattle.geom.specs.Device.{PixelValue}
use Rattle.labelcache.specs.Anchors.{AreKept, anchors_of, anchors_with}
use Rattle.labelcache.specs.Candidate.{CandidateValue}

-- what follows from the facts of a success, or from those of an error
pub ok-then : {A E : Type 0} {P Q : Type 0} (r : Result A E) → (P → Q) → OnOk r P → OnOk r Q
ok-then (Ok a) h p = h p
ok-then (Err e) h p = p

pub err-then : {A E : Type 0} {P Q : Type 0} (r : Result A E) → (P → Q) → OnErr r P → OnErr r Q
err-then (Ok a) h p = p
err-then (Err e) h p = h p

abbrev noted : Option (List PixelValue) → List PixelValue
noted places = option_map_or (λ (ps : List PixelValue). ps) places []

abbrev more : Bool → List PixelValue → PixelValue → List PixelValue
more b ps anchor = if b then ps ++ anchor ∷ [] else ps

same-text : (xs ys : List ℕ) → bytes_eq xs ys ≡ true → xs ≡ ys
same-text xs ys h = search (rules, bytes_eq-Decides, h)

more-step : (b : Bool) (old new : Option (List PixelValue)) (ps : List PixelValue) (anchor : PixelValue) →
    new ≡ cond b (Some (ps ++ anchor ∷ [])) old → (b ≡ true → ps ≡ noted old) → noted new ≡ more b (noted old) anchor
more-step true old new ps anchor e h = ap noted e ∙ ap (λ (xs : List PixelValue). xs ++ anchor ∷ []) (h refl)
more-step false old new ps anchor e h = ap noted e

same-step : (b : Bool) (old new : Option (List PixelValue)) (ps : List PixelValue) →
    new ≡ cond b (Some ps) old → (b ≡ true → ps ≡ noted old) → noted new ≡ noted old
same-step true old new ps e h = ap noted e ∙ h refl
same-step false old new ps e h = ap noted e

-- a text has one more anchor, and the others have what they had
pub noted-more : {Y : Type 0} (m n : BTreeMap (String Y) (List PixelValue)) (bs : List ℕ) (ps new : List PixelValue) (anchor : PixelValue) →
    UpdatesBy string_cmp (λ k. slice_cmp nat_cmp bs (string_bytes k)) m n (Some new) → new ≡ ps ++ anchor ∷ [] → ps ≡ anchors_of m bs →
    (q : List ℕ) → anchors_of n q ≡ (if bytes_eq bs q then anchors_of m q ++ anchor ∷ [] else anchors_of m q)
noted-more m n bs ps new anchor u is e q =
    more-step (bytes_eq bs q) (get_by_text m q) (get_by_text n q) ps anchor
    (btree_map_updates_text bs m n (Some new) u q ∙ ap (λ (v : List PixelValue). cond (bytes_eq bs q) (Some v) (get_by_text m q)) is)
    (λ h. rw (← same-text bs q h) e)

-- writing the same value again changes nothing
pub noted-same : {Y : Type 0} (m n : BTreeMap (String Y) (List PixelValue)) (bs : List ℕ) (ps : List PixelValue) →
    UpdatesBy string_cmp (λ k. slice_cmp nat_cmp bs (string_bytes k)) m n (Some ps) → ps ≡ anchors_of m bs →
    (q : List ℕ) → anchors_of n q ≡ anchors_of m q
noted-same m n bs ps u e q =
    same-step (bytes_eq bs q) (get_by_text m q) (get_by_text n q) ps (btree_map_updates_text bs m n (Some ps) u q)
    (λ h. rw (← same-text bs q h) e)

more-cons : (b : Bool) (p : PixelValue) (ps : List PixelValue) (anchor : PixelValue) → p ∷ more b ps anchor ≡ more b (p ∷ ps) anchor
more-cons true p ps anchor = refl
more-cons false p ps anchor = refl

with-step : (t b : Bool) (x : CandidateValue) (new old : List CandidateValue) (anchor : PixelValue) →
    map (λ (c : CandidateValue). c.anchor) new ≡ more b (map (λ (c : CandidateValue). c.anchor) old) anchor →
    map (λ (c : CandidateValue). c.anchor) (cond t (x ∷ new) new) ≡ more b (map (λ (c : CandidateValue). c.anchor) (cond t (x ∷ old) old)) anchor
with-step true b x new old anchor e =
    ap (λ (ps : List PixelValue). x.anchor ∷ ps) e ∙ more-cons b x.anchor (map (λ (c : CandidateValue). c.anchor) old) anchor
with-step false b x new old anchor e = e

with-last : (b : Bool) (c : CandidateValue) → map (λ (c : CandidateValue). c.anchor) (cond b (c ∷ []) []) ≡ more b [] c.anchor
with-last true c = refl
with-last false c = refl

with-more : (q : List ℕ) (placed : List CandidateValue) (c : CandidateValue) →
    anchors_with q (placed ++ c ∷ []) ≡ more (bytes_eq c.text q) (anchors_with q placed) c.anchor
with-more q [] c = with-last (bytes_eq c.text q) c
with-more q (x ∷ placed) c =
    with-step (bytes_eq x.text q) (bytes_eq c.text q) x (filter (λ (o : CandidateValue). bytes_eq o.text q) (placed ++ c ∷ []))
    (filter (λ (o : CandidateValue). bytes_eq o.text q) placed) c.anchor (with-more q placed c)
