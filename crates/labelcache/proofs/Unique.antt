-- There is at most one placement.
use Rattle.std.proofs.Common.{◌≡◌, ℕ, zero, suc, ◌<◌, ◌≤◌, List, [], ◌∷◌, get_or, Option, None, Some, refl, sym, ◌∙◌, ap, inl, inr, ⊎_elim, arith}
use Rattle.std.proofs.lemmas.Bool.{cases_lt, cases_eq}
use Rattle.std.proofs.lemmas.Option.{none-some, same_Some, slice_get_within, slice_get-get_or, get_or_from_slice_get}
use Rattle.std.specs.List.{slice_get}
use Rattle.geom.specs.Device.{PixelValue}
use Rattle.labelcache.specs.declared.cache.Placed.{Placed}
use Rattle.labelcache.specs.Candidate.{CandidateValue, IsTriedBefore}
use Rattle.labelcache.specs.LabelBox.{corners, taken_at}
use Rattle.labelcache.specs.Placement.{Setting, Passes, IsFirst, HasNone, IsPlacement, HasOnePlacement}
use Rattle.labelcache.proofs.Trying.{tried-irrefl, tried-asym, tried-cases, tried-trans}

-- lists with the same elements are the same
pub same-list : {X : Type 0} (xs ys : List X) → ((i : ℕ) → slice_get xs i ≡ slice_get ys i) → xs ≡ ys
same-list [] [] h = refl
same-list [] (y ∷ ys) h = absurd (none-some y (h 0))
same-list (x ∷ xs) [] h = absurd (none-some x (sym (h 0)))
same-list (x ∷ xs) (y ∷ ys) h =
    let e : x ≡ y = same_Some x y (h 0) in
    let r : xs ≡ ys = same-list xs ys (λ i. h (suc i)) in
    rw (e, r) refl

-- the first element for which P holds is the first for which Q does, where both hold for the same ones
pub first-same : {X : Type 0} (P Q : X → Type 0) (xs : List X) (x y : X) → ((z : X) → P z → Q z) → ((z : X) → Q z → P z) → IsFirst P xs x → IsFirst Q xs y → x ≡ y
first-same P Q xs x y to from f g = elim (cases_lt f.index g.index) [
  | inl lt ↦ absurd (g.none f.index x lt f.is (to x f.holds))
  | inr ge ↦ elim (cases_lt g.index f.index) [
    | inl lt ↦ absurd (f.none g.index y lt g.is (from y g.holds))
    | inr le ↦ (let e : f.index ≡ g.index = omega arith in same_Some x y (sym f.is ∙ ap (slice_get xs) e ∙ g.is))
  ]
]

-- what passes against some labels passes against others, if the relevant ones of these are among the first
pub passes-move : (s : Setting) (a b : List Placed) (n : ℕ) (c : CandidateValue) (at : PixelValue) →
    ((i : ℕ) (l : Placed) → slice_get b i ≡ Some l → IsTriedBefore s.candidates l.number n → slice_get a i ≡ Some l) →
    Passes s a n c at → Passes s b n c at
passes-move s a b n c at among p = record {
  shown = p.shown;
  clear = λ f i d h before.
      let is = among i (get_or b i d) (slice_get-get_or b i d h) before in
      let e = get_or_from_slice_get a i (get_or b i d) d is in
      let q = p.clear f i d (slice_get_within a i (get_or b i d) is) in
      rw e at q before;
  apart = λ f i d h before.
      let is = among i (get_or b i d) (slice_get-get_or b i d h) before in
      let e = get_or_from_slice_get a i (get_or b i d) d is in
      let q = p.apart f i d (slice_get_within a i (get_or b i d) is) in
      rw e at q before;
}

-- the labels before another are tried before it
pub order-at : (s : Setting) (a : List Placed) (i k : ℕ) (l x : Placed) → IsPlacement s a → i < k → slice_get a i ≡ Some l → slice_get a k ≡ Some x →
    IsTriedBefore s.candidates l.number x.number
order-at s a i k l x p lt is there =
    let q = p.order i k x lt (slice_get_within a k x there) in
    rw (get_or_from_slice_get a i l x is, get_or_from_slice_get a k x x there) at q

-- a label isn't the first one that is missing in another placement
pub no-extra : (s : Setting) (a b : List Placed) (k : ℕ) (x : Placed) → IsPlacement s a → IsPlacement s b → slice_get a k ≡ Some x →
    ((i : ℕ) → i < k → slice_get a i ≡ slice_get b i) → ((i : ℕ) (l : Placed) → k ≤ i → slice_get b i ≡ Some l → IsTriedBefore s.candidates x.number l.number) → ⊥
no-extra s a b k x p q there agree later =
    let st = p.stands k x there in
    let before : (i : ℕ) (l : Placed) → i < k → slice_get b i ≡ Some l → IsTriedBefore s.candidates l.number x.number =
    λ i l lt is. order-at s a i k l x p lt (agree i lt ∙ is) there in
    let none : HasNone b x.number = λ i d h same.
    let is = slice_get-get_or b i d h in
    ⊎_elim
    (λ (lt : i < k). tried-irrefl s.candidates _ _ same (before i (get_or b i d) lt is))
    (λ (ge : k ≤ i). tried-irrefl s.candidates _ _ (sym same) (later i (get_or b i d) ge is))
    (cases_lt i k) in
    let passes : Passes s b x.number st.candidate x.at = passes-move s a b x.number st.candidate x.at
    (λ i l is tried. ⊎_elim
    (λ (lt : i < k). agree i lt ∙ is)
    (λ (ge : k ≤ i). absurd (tried-asym s.candidates _ _ tried (later i l ge is)))
    (cases_lt i k)) st.first.holds in
    q.left_out x.number st.candidate st.is none st.first.index x.at st.first.is passes

-- two labels of one candidate that follow the same labels are the same
pub same-label : (s : Setting) (a b : List Placed) (k : ℕ) (x y : Placed) → IsPlacement s a → IsPlacement s b → slice_get a k ≡ Some x → slice_get b k ≡ Some y →
    ((i : ℕ) → i < k → slice_get a i ≡ slice_get b i) → x.number ≡ y.number → x ≡ y
same-label s a b k x y p q there there' agree e =
    let st = p.stands k x there in
    let st' = q.stands k y there' in
    let c : st.candidate ≡ st'.candidate = same_Some _ _ (sym st.is ∙ ap (slice_get s.candidates) e ∙ st'.is) in
    let early : (u v : List Placed) (z w : Placed) → IsPlacement s u → slice_get u k ≡ Some z → slice_get v k ≡ Some w → z.number ≡ w.number → IsPlacement s v → ((i : ℕ) → i < k → slice_get u i ≡ slice_get v i) →
    (i : ℕ) (l : Placed) → slice_get v i ≡ Some l → IsTriedBefore s.candidates l.number z.number → slice_get u i ≡ Some l =
    λ u v z w pu isz isw same pv ag i l is tried. ⊎_elim
    (λ (lt : i < k). ag i lt ∙ is)
    (λ (ge : k ≤ i). ⊎_elim
    (λ (eq : i ≡ k).
    let r : l ≡ w = same_Some l w (sym is ∙ ap (slice_get v) eq ∙ isw) in
    absurd (tried-irrefl s.candidates _ _ (ap (λ (t : Placed). t.number) r ∙ sym same) tried))
    (λ (ne : i ≡ k → ⊥). absurd (tried-asym s.candidates _ _ (rw (← same) at (order-at s v k i w l pv (omega (arith, ge, ne)) isw is)) tried))
    (cases_eq i k))
    (cases_lt i k) in
    let f' : IsFirst (Passes s b x.number st.candidate) (corners s.page.fonts st.candidate) y.at = rw (← c, ← e) at st'.first in
    let at : x.at ≡ y.at = first-same (Passes s a x.number st.candidate) (Passes s b x.number st.candidate) (corners s.page.fonts st.candidate) x.at y.at
    (λ z. passes-move s a b x.number st.candidate z (early a b x y p there there' e q agree))
    (λ z. passes-move s b a x.number st.candidate z (early' e))
    st.first f' in
    let taken : x.taken ≡ y.taken = st.taken ∙ ap (λ (z : PixelValue). taken_at s.page.fonts st.candidate z) at ∙ ap (λ (z : CandidateValue). taken_at s.page.fonts z y.at) c ∙ sym st'.taken in
    same-parts x y e at taken
  where
    early' : x.number ≡ y.number → (i : ℕ) (l : Placed) → slice_get a i ≡ Some l → IsTriedBefore s.candidates l.number x.number → slice_get b i ≡ Some l
    early' same i l is tried = ⊎_elim
        (λ (lt : i < k). sym (agree i lt) ∙ is)
        (λ (ge : k ≤ i). ⊎_elim
        (λ (eq : i ≡ k).
        let r : l ≡ x = same_Some l x (sym is ∙ ap (slice_get a) eq ∙ there) in
        absurd (tried-irrefl s.candidates _ _ (ap (λ (t : Placed). t.number) r) tried))
        (λ (ne : i ≡ k → ⊥). absurd (tried-asym s.candidates _ _ (order-at s a k i x l p (omega (arith, ge, ne)) there is) tried))
        (cases_eq i k))
        (cases_lt i k)

    same-parts : (x y : Placed) → x.number ≡ y.number → x.at ≡ y.at → x.taken ≡ y.taken → x ≡ y
    same-parts x y d f g = rw (d, f, g) refl

-- where two placements agree on the first labels, they agree on the next one
agree-next : (s : Setting) (a b : List Placed) (k : ℕ) → IsPlacement s a → IsPlacement s b → ((i : ℕ) → i < k → slice_get a i ≡ slice_get b i) →
    (o r : Option Placed) → slice_get a k ≡ o → slice_get b k ≡ r → o ≡ r
agree-next s a b k p q agree None None is is' = refl
agree-next s a b k p q agree None (Some y) is is' = absurd (no-extra s b a k y q p is' (λ i lt. sym (agree i lt)) (λ i l ge there. absurd (past s a i k l is ge there)))
  where
    past : (s : Setting) (a : List Placed) (i k : ℕ) (l : Placed) → slice_get a k ≡ None → k ≤ i → slice_get a i ≡ Some l → ⊥
    past s a i k l none ge there =
        let w = slice_get_within a i l there in
        none-some (get_or a k l) (sym none ∙ slice_get-get_or a k l (omega arith))
agree-next s a b k p q agree (Some x) None is is' = absurd (no-extra s a b k x p q is agree (λ i l ge there. absurd (past s b i k l is' ge there)))
  where
    past : (s : Setting) (a : List Placed) (i k : ℕ) (l : Placed) → slice_get a k ≡ None → k ≤ i → slice_get a i ≡ Some l → ⊥
    past s a i k l none ge there =
        let w = slice_get_within a i l there in
        none-some (get_or a k l) (sym none ∙ slice_get-get_or a k l (omega arith))
agree-next s a b k p q agree (Some x) (Some y) is is' = elim (tried-cases s.candidates x.number y.number) [
  | inl before ↦ absurd (no-extra s a b k x p q is agree (from b q y is' x before))
  | inr other ↦ elim other [
    | inl same ↦ ap Some (same-label s a b k x y p q is is' agree same)
    | inr after ↦ absurd (no-extra s b a k y q p is' (λ i lt. sym (agree i lt)) (from a p x is y after))
  ]
]
  where
    from : (v : List Placed) → IsPlacement s v → (w : Placed) → slice_get v k ≡ Some w → (z : Placed) → IsTriedBefore s.candidates z.number w.number →
        (i : ℕ) (l : Placed) → k ≤ i → slice_get v i ≡ Some l → IsTriedBefore s.candidates z.number l.number
    from v pv w isw z before i l ge there = elim (cases_eq i k) [
      | inl eq ↦ (let r : l ≡ w = same_Some l w (sym there ∙ ap (slice_get v) eq ∙ isw) in rw r before)
      | inr ne ↦ tried-trans s.candidates _ _ _ before (order-at s v k i w l pv (omega (arith, ge, ne)) isw there)
    ]

-- two placements agree on any number of first labels
agree-to : (s : Setting) (a b : List Placed) → IsPlacement s a → IsPlacement s b → (k i : ℕ) → i < k → slice_get a i ≡ slice_get b i
agree-to s a b p q zero i h = absurd (omega arith)
agree-to s a b p q (suc k) i h = elim (cases_lt i k) [
  | inl lt ↦ agree-to s a b p q k i lt
  | inr ge ↦ (let e : i ≡ k = omega arith in rw e (agree-next s a b k p q (agree-to s a b p q k) (slice_get a k) (slice_get b k) refl refl))
]

pub one-placement : HasOnePlacement
one-placement s a b p q = same-list a b (λ i. agree-to s a b p q (suc i) i (omega arith))
