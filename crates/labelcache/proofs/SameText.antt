-- Candidates of one text, and their anchors.
use Rattle.std.proofs.Common.{◌++◌, ◌+◌, ◌-◌, ◌<◌, ◌≤◌, length, ⊎_elim, inl, inr, ◌≡◌, Bool, true, false, ◌&&◌, ◌||◌, cond, nat_lt, List, [], ◌∷◌, map, refl, ap, sym, ◌∙◌, rules, arith}
use Rattle.std.proofs.Math.Seq.{get_or-append_right}
use Rattle.std.proofs.lemmas.Bool.{cases_lt}
use Rattle.std.proofs.lemmas.List.{get_or-append-add, get_or_append_left, length-append}
use Rattle.std.specs.Prelude.{◌⊎◌}
use Rattle.std.proofs.lemmas.List.Folds.{Any-from_list_any, list_any-from_Any}
use Rattle.std.proofs.lemmas.Slice.Eq.{bytes_eq-Decides}
use Rattle.std.specs.List.{Any, filter, list_any}
use Rattle.std.specs.Str.{bytes_eq}
use Rattle.geom.specs.Device.{PixelValue}
use Rattle.mapdefs.proofs.Containing.{any-weaker}
use Rattle.labelcache.specs.Anchors.{IsTooNear, IsAnchorNear, anchors_with}
use Rattle.labelcache.specs.Candidate.{CandidateValue, square, squared_distance, distance_of}

-- what is tested for those that pass a filter
filtered-step : {X Y : Type 0} (b : Bool) (p : Y → Bool) (f : X → Y) (x : X) (ys : List X) (r : Bool) →
    list_any p (map f ys) ≡ r → list_any p (map f (cond b (x ∷ ys) ys)) ≡ ((b && p (f x)) || r)
filtered-step true p f x ys r e = ap (λ (q : Bool). p (f x) || q) e
filtered-step false p f x ys r e = e

any-filtered : {X Y : Type 0} (test : X → Bool) (f : X → Y) (p : Y → Bool) (xs : List X) →
    list_any p (map f (filter test xs)) ≡ list_any (λ x. test x && p (f x)) xs
any-filtered test f p [] = refl
any-filtered test f p (x ∷ xs) =
    filtered-step (test x) p f x (filter test xs) (list_any (λ x. test x && p (f x)) xs) (any-filtered test f p xs)

-- the test that another candidate is near
near-tested : (c other : CandidateValue) → IsTooNear c other →
    (bytes_eq other.text c.text && nat_lt (squared_distance c.anchor other.anchor) (square (distance_of c))) ≡ true
near-tested c other near = search (rules, bytes_eq-Decides, near.text, near.near)

tested-near : (c other : CandidateValue) →
    (bytes_eq other.text c.text && nat_lt (squared_distance c.anchor other.anchor) (square (distance_of c))) ≡ true → IsTooNear c other
tested-near c other h = record { text = search (rules, bytes_eq-Decides, h); near = search (rules, h) }

-- a candidate is near exactly where an anchor of its text is
pub near-place : (c : CandidateValue) (placed : List CandidateValue) → Any (IsTooNear c) placed →
    Any (IsAnchorNear c.anchor (distance_of c)) (anchors_with c.text placed)
near-place c placed a =
    let test = λ (other : CandidateValue). bytes_eq other.text c.text in
    let anchor = λ (other : CandidateValue). other.anchor in
    let p = λ (place : PixelValue). nat_lt (squared_distance c.anchor place) (square (distance_of c)) in
    let both = list_any-from_Any (λ (other : CandidateValue). test other && p (anchor other)) placed
    (any-weaker (IsTooNear c) (λ other. (test other && p (anchor other)) ≡ true) placed (near-tested c) a) in
    any-weaker (λ place. p place ≡ true) (IsAnchorNear c.anchor (distance_of c)) (anchors_with c.text placed)
    (λ place e. search (rules, e))
    (Any-from_list_any p (anchors_with c.text placed) (any-filtered test anchor p placed ∙ both))

pub place-near : (c : CandidateValue) (placed : List CandidateValue) → Any (IsAnchorNear c.anchor (distance_of c)) (anchors_with c.text placed) →
    Any (IsTooNear c) placed
place-near c placed a =
    let test = λ (other : CandidateValue). bytes_eq other.text c.text in
    let anchor = λ (other : CandidateValue). other.anchor in
    let p = λ (place : PixelValue). nat_lt (squared_distance c.anchor place) (square (distance_of c)) in
    let one = list_any-from_Any p (anchors_with c.text placed)
    (any-weaker (IsAnchorNear c.anchor (distance_of c)) (λ place. p place ≡ true) (anchors_with c.text placed) (λ place lt. search (rules, lt)) a) in
    any-weaker (λ other. (test other && p (anchor other)) ≡ true) (IsTooNear c) placed (tested-near c)
    (Any-from_list_any (λ (other : CandidateValue). test other && p (anchor other)) placed (sym (any-filtered test anchor p placed) ∙ one))

-- an empty list has no near anchor
pub none-any : {X : Type 0} {P : X → Type 0} → Any P [] → ⊥
none-any a = absurd (omega (arith, a.2))

-- what holds for one element of the second of two lists holds for one of both, and for one of them what holds for one of both
pub any-right : {X : Type 0} (P : X → Type 0) (xs ys : List X) → Any P ys → Any P (xs ++ ys)
any-right P xs ys a =
    (length xs + a.0, a.1, omega (arith, a.2, length-append xs ys), get_or-append-add xs ys a.0 a.1 ∙ a.3, a.4)

pub any-cases : {X : Type 0} (P : X → Type 0) (xs ys : List X) → Any P (xs ++ ys) → Any P xs ⊎ Any P ys
any-cases P xs ys a = ⊎_elim
    (λ (h : a.0 < length xs). inl (a.0, a.1, h, sym (get_or_append_left xs ys a.1 a.0 h) ∙ a.3, a.4))
    (λ (h : length xs ≤ a.0). inr (a.0 - length xs, a.1, omega (arith, a.2, h, length-append xs ys), sym (get_or-append_right xs ys a.0 a.1 h) ∙ a.3, a.4))
    (cases_lt a.0 (length xs))
