-- The labels that are placed so far, as the order of trial goes on.
use Rattle.std.proofs.Common.{◌≡◌, ℕ, ◌+◌, ◌<◌, ◌≤◌, List, [], ◌∷◌, ◌++◌, length, get_or, Some, refl, sym, ◌∙◌, ap, subst, inl, inr, arith}
use Rattle.std.proofs.lemmas.Bool.{cases_lt, cases_eq}
use Rattle.std.proofs.lemmas.List.{get_or_append_left, length-append}
use Rattle.std.proofs.lemmas.List.Elements.{All-nil, All-cons, All-head, All-tail, All-push, All-weaker}
use Rattle.std.proofs.lemmas.List.Quantifiers.{all_pairs_push}
use Rattle.std.proofs.lemmas.Option.{none-some, same_Some, slice_get_within, slice_get-get_or, get_or_from_slice_get}
use Rattle.std.proofs.Math.Seq.{get_or-append_seam}
use Rattle.std.specs.List.{All, AllZip, slice_get}
use Rattle.geom.specs.Device.{PixelValue}
use Rattle.labelcache.specs.declared.cache.Placed.{Placed}
use Rattle.labelcache.specs.Anchors.{IsTooNear}
use Rattle.labelcache.specs.Candidate.{CandidateValue, IsTriedBefore, AreWithinPriorities, priority_of, square, squared_distance, distance_of}
use Rattle.labelcache.specs.LabelBox.{corners, taken_at}
use Rattle.labelcache.specs.Placement.{Setting, IsApart, IsClear, Passes, IsFirst, Stands, HasNone, IsShutOut, IsPlacement}
use Rattle.labelcache.specs.Placing.{PlacingValue, IsFar, Fits, FitsNowhere, Adds, Tries, IsReached, IsPlacedTo}
use Rattle.labelcache.proofs.Trying.{tried-irrefl, tried-asym}
use Rattle.labelcache.proofs.Unique.{passes-move}

-- each label has a candidate
abbrev pub IsOf : List CandidateValue → Placed → CandidateValue → Type 0
IsOf cs label other = slice_get cs label.number ≡ Some other

not-less : (a b : ℕ) → (a < b → ⊥) → b ≤ a
not-less a b n = elim (cases_lt a b) [ inl h ↦ absurd (n h) | inr h ↦ h ]

not-both : (a b : ℕ) → a < b → b ≤ a → ⊥
not-both a b h k = omega arith

-- candidates are apart exactly where they aren't near
pub far-apart : (cs : List CandidateValue) (c : CandidateValue) (labels : List Placed) (others : List CandidateValue) → AllZip (IsOf cs) labels others →
    IsFar c others → All (IsApart cs c) labels
far-apart cs c [] [] z f = All-nil (IsApart cs c)
far-apart cs c [] (o ∷ os) z f = absurd z
far-apart cs c (l ∷ ls) [] z f = absurd z
far-apart cs c (l ∷ ls) (o ∷ os) z f =
    let here : IsApart cs c l = λ other is text.
    let e : other ≡ o = same_Some other o (sym is ∙ z.0) in
    not-less (squared_distance c.anchor other.anchor) (square (distance_of c))
    (λ near. All-head (λ other. IsTooNear c other → ⊥) o os f (rw (← e) (record { text = text; near = near }))) in
    All-cons (IsApart cs c) l ls here (far-apart cs c ls os z.1 (All-tail (λ other. IsTooNear c other → ⊥) o os f))

pub apart-far : (cs : List CandidateValue) (c : CandidateValue) (labels : List Placed) (others : List CandidateValue) → AllZip (IsOf cs) labels others →
    All (IsApart cs c) labels → IsFar c others
apart-far cs c [] [] z a = All-nil (λ other. IsTooNear c other → ⊥)
apart-far cs c [] (o ∷ os) z a = absurd z
apart-far cs c (l ∷ ls) [] z a = absurd z
apart-far cs c (l ∷ ls) (o ∷ os) z a =
    All-cons (λ other. IsTooNear c other → ⊥) o os
    (λ near. not-both (squared_distance c.anchor o.anchor) (square (distance_of c)) near.near (All-head (IsApart cs c) l ls a o z.0 near.text))
    (apart-far cs c ls os z.1 (All-tail (IsApart cs c) l ls a))

-- one more label, with its candidate
zip-push : (cs : List CandidateValue) (labels : List Placed) (others : List CandidateValue) (l : Placed) (o : CandidateValue) → AllZip (IsOf cs) labels others → IsOf cs l o →
    AllZip (IsOf cs) (labels ++ l ∷ []) (others ++ o ∷ [])
zip-push cs [] [] l o z h = (h, record {})
zip-push cs [] (y ∷ ys) l o z h = absurd z
zip-push cs (x ∷ xs) [] l o z h = absurd z
zip-push cs (x ∷ xs) (y ∷ ys) l o z h = (z.0, zip-push cs xs ys l o z.1 h)

-- all labels are tried before a number
abbrev pub AllBefore : List CandidateValue → List Placed → ℕ → Type 0
AllBefore cs labels n = All (λ label. IsTriedBefore cs label.number n) labels

-- where all labels are tried before the candidate, fitting is passing
pub fits-passes : (s : Setting) (old : PlacingValue) (n : ℕ) (c : CandidateValue) (at : PixelValue) → AllZip (IsOf s.candidates) old.labels old.candidates →
    Fits s.page old c at → Passes s old.labels n c at
fits-passes s old n c at z f = record {
  shown = f.free.shown;
  clear = λ e k d h b. f.free.clear e k d h;
  apart = λ e k d h b. far-apart s.candidates c old.labels old.candidates z (f.far e) k d h;
}

pub passes-fits : (s : Setting) (old : PlacingValue) (n : ℕ) (c : CandidateValue) (at : PixelValue) → AllZip (IsOf s.candidates) old.labels old.candidates →
    AllBefore s.candidates old.labels n → Passes s old.labels n c at → Fits s.page old c at
passes-fits s old n c at z before p = record {
  free = record { shown = p.shown; clear = λ e k d h. p.clear e k d h (before k d h) };
  far = λ e. apart-far s.candidates c old.labels old.candidates z (λ k d h. p.apart e k d h (before k d h));
}

-- one more label that isn't tried before a number changes nothing for it
pub passes-more : (s : Setting) (labels : List Placed) (l : Placed) (n : ℕ) (c : CandidateValue) (at : PixelValue) → (IsTriedBefore s.candidates l.number n → ⊥) →
    Passes s labels n c at → Passes s (labels ++ l ∷ []) n c at
passes-more s labels l n c at not p = record {
  shown = p.shown;
  clear = λ e. All-push (λ label. IsTriedBefore s.candidates label.number n → IsClear (taken_at s.page.fonts c at) label) labels l (p.clear e) (λ t. absurd (not t));
  apart = λ e. All-push (λ label. IsTriedBefore s.candidates label.number n → IsApart s.candidates c label) labels l (p.apart e) (λ t. absurd (not t));
}

-- an element of a list is in the longer one
kept : (labels : List Placed) (l x : Placed) (i : ℕ) → slice_get labels i ≡ Some x → slice_get (labels ++ l ∷ []) i ≡ Some x
kept labels l x i is =
    let w = slice_get_within labels i x is in
    slice_get-get_or (labels ++ l ∷ []) i x (omega (arith, length-append labels (l ∷ []))) ∙ ap Some (get_or_append_left labels (l ∷ []) x i w ∙ get_or_from_slice_get labels i x x is)

pub passes-less : (s : Setting) (labels : List Placed) (l : Placed) (n : ℕ) (c : CandidateValue) (at : PixelValue) → Passes s (labels ++ l ∷ []) n c at → Passes s labels n c at
passes-less s labels l n c at p = passes-move s (labels ++ l ∷ []) labels n c at (λ i x is t. kept labels l x i is) p

-- the first for which P holds is the first for which Q does
pub first-map : {X : Type 0} (P Q : X → Type 0) (xs : List X) (x : X) → ((z : X) → P z → Q z) → ((z : X) → Q z → P z) → IsFirst P xs x → IsFirst Q xs x
first-map P Q xs x to from f = record {
  index = f.index;
  is = f.is;
  holds = to x f.holds;
  none = λ i y lt is h. f.none i y lt is (from y h);
}

-- a number that is reached stays reached
reached-more : (cs : List CandidateValue) (p n m : ℕ) → IsReached cs p (n + 1) m → IsReached cs p n m
reached-more cs p n m r = elim r [
  | inl h ↦ inl h
  | inr h ↦ inr (h.0, omega (arith, h.1))
]

-- and a number that is reached then was reached before, if it isn't the number itself
reached-other : (cs : List CandidateValue) (p n m : ℕ) → IsReached cs p n m → (m ≡ n → ⊥) → IsReached cs p (n + 1) m
reached-other cs p n m r other = elim r [
  | inl h ↦ inl h
  | inr h ↦ inr (h.0, omega (arith, h.1, other))
]

-- all labels are tried before the next number, if it has that priority
pub all-before : (s : Setting) (p n : ℕ) (x : PlacingValue) → IsPlacedTo s p (n + 1) x → priority_of s.candidates n ≡ p → AllBefore s.candidates x.labels n
all-before s p n x t e k d h = elim (t.reached k d h) [
  | inl r ↦ inl (omega (arith, e))
  | inr r ↦ inr (r.0 ∙ sym e, omega (arith, r.1))
]

-- a number of the priority that has no label is shut out
pub come-down : (s : Setting) (p n : ℕ) (x : PlacingValue) → IsPlacedTo s p (n + 1) x →
    ((c : CandidateValue) → slice_get s.candidates n ≡ Some c → priority_of s.candidates n ≡ p → IsShutOut s x.labels n c) → IsPlacedTo s p n x
come-down s p n x t shut = record {
  order = t.order;
  stands = t.stands;
  reached = All-weaker (λ label. IsReached s.candidates p (n + 1) label.number) (λ label. IsReached s.candidates p n label.number) (λ label. reached-more s.candidates p n label.number) x.labels t.reached;
  left_out = λ m c is r none. elim (cases_eq m n) [
    | inl e ↦ elim r [
      | inl h ↦ t.left_out m c is (inl h) none
      | inr h ↦ rw e (shut c (rw e at is) (rw e at h.0))
    ]
    | inr other ↦ t.left_out m c is (reached-other s.candidates p n m r other) none
  ];
  candidates = t.candidates;
}

-- a candidate that fits nowhere
pub step-leaves : (s : Setting) (p n : ℕ) (c : CandidateValue) (x : PlacingValue) → IsPlacedTo s p (n + 1) x → slice_get s.candidates n ≡ Some c →
    FitsNowhere s.page x c → IsPlacedTo s p n x
step-leaves s p n c x t is none = come-down s p n x t (λ c' is' e i at there passes.
    let same : c' ≡ c = same_Some c' c (sym is' ∙ is) in
    none i at (rw same at there) (passes-fits s x n c at t.candidates (all-before s p n x t e) (rw same at passes)))

-- a number of another priority
pub step-skip : (s : Setting) (p n : ℕ) (x : PlacingValue) → IsPlacedTo s p (n + 1) x → (priority_of s.candidates n ≡ p → ⊥) → IsPlacedTo s p n x
step-skip s p n x t other = come-down s p n x t (λ c is e. absurd (other e))

-- a candidate that gets a label
pub step-adds : (s : Setting) (p n : ℕ) (c : CandidateValue) (old new : PlacingValue) → IsPlacedTo s p (n + 1) old → slice_get s.candidates n ≡ Some c →
    priority_of s.candidates n ≡ p → Adds s.page n c old new → IsPlacedTo s p n new
step-adds s p n c old new t is e a = rw (a.labels, a.candidates) (record {
  order = all_pairs_push (λ x y. IsTriedBefore s.candidates x.number y.number) old.labels a.label t.order (λ k d h. rw a.number (before k d h));
  stands = stands;
  reached = All-push (λ label. IsReached s.candidates p n label.number) old.labels a.label
      (All-weaker (λ label. IsReached s.candidates p (n + 1) label.number) (λ label. IsReached s.candidates p n label.number) (λ label. reached-more s.candidates p n label.number) old.labels t.reached)
      (rw a.number (inr (e, omega arith)));
  left_out = λ m c' is' r none.
      let other : m ≡ n → ⊥ = λ same. none (length old.labels) a.label (omega (arith, length-append old.labels (a.label ∷ []))) (rw (get_or-append_seam old.labels a.label [] a.label) (a.number ∙ sym same)) in
      λ i at there passes. t.left_out m c' is' (reached-other s.candidates p n m r other) (none-left m none) i at there (passes-less s old.labels a.label m c' at passes);
  candidates = zip-push s.candidates old.labels old.candidates a.label c t.candidates (rw a.number is);
})
  where
    before : AllBefore s.candidates old.labels n
    before = all-before s p n old t e

    none-left : (m : ℕ) → HasNone (old.labels ++ a.label ∷ []) m → HasNone old.labels m
    none-left m none k d h same = none k d (omega (arith, h, length-append old.labels (a.label ∷ []))) (rw (get_or_append_left old.labels (a.label ∷ []) d k h) same)

    stands : (k : ℕ) (label : Placed) → slice_get (old.labels ++ a.label ∷ []) k ≡ Some label → Stands s (old.labels ++ a.label ∷ []) label
    stands k label there = elim (cases_lt k (length old.labels)) [
      | inl lt ↦ (
          let same : get_or old.labels k label ≡ label = sym (get_or_append_left old.labels (a.label ∷ []) label k lt) ∙ get_or_from_slice_get (old.labels ++ a.label ∷ []) k label label there in
          let was : slice_get old.labels k ≡ Some label = slice_get-get_or old.labels k label lt ∙ ap Some same in
          let st = t.stands k label was in
          let first : IsTriedBefore s.candidates label.number n = rw same at (before k label lt) in
          record {
            candidate = st.candidate;
            is = st.is;
            first = first-map (Passes s old.labels label.number st.candidate) (Passes s (old.labels ++ a.label ∷ []) label.number st.candidate) (corners s.page.fonts st.candidate) label.at
                (λ z. passes-more s old.labels a.label label.number st.candidate z (λ tried. tried-asym s.candidates _ _ (rw a.number at tried) first))
                (λ z. passes-less s old.labels a.label label.number st.candidate z) st.first;
            taken = st.taken;
          })
      | inr ge ↦ (
          let w = slice_get_within (old.labels ++ a.label ∷ []) k label there in
          let k' : k ≡ length old.labels = omega (arith, length-append old.labels (a.label ∷ [])) in
          let same : label ≡ a.label = sym (get_or_from_slice_get (old.labels ++ a.label ∷ []) k label label there) ∙ ap (λ i. get_or (old.labels ++ a.label ∷ []) i label) k' ∙ get_or-append_seam old.labels a.label [] label in
          rw same (record {
            candidate = c;
            is = rw a.number is;
            first = subst (λ m. IsFirst (Passes s (old.labels ++ a.label ∷ []) m c) (corners s.page.fonts c) a.label.at) (sym a.number) (first-map (Fits s.page old c) (Passes s (old.labels ++ a.label ∷ []) n c) (corners s.page.fonts c) a.label.at
                (λ z fits. passes-more s old.labels a.label n c z (λ tried. tried-irrefl s.candidates _ _ a.number tried) (fits-passes s old n c z t.candidates fits))
                (λ z passes. passes-fits s old n c z t.candidates before (passes-less s old.labels a.label n c z passes)) a.place.first);
            taken = a.place.box;
          }))
    ]

-- the next priority begins where one ends
pub next-priority : (s : Setting) (p : ℕ) (x : PlacingValue) → IsPlacedTo s (p + 1) 0 x → IsPlacedTo s p (length s.candidates) x
next-priority s p x t = record {
  order = t.order;
  stands = t.stands;
  reached = All-weaker (λ label. IsReached s.candidates (p + 1) 0 label.number) (λ label. IsReached s.candidates p (length s.candidates) label.number) (λ label r. elim r [
    | inl h ↦ inl (omega arith)
    | inr h ↦ (let e = h.0 in inl (omega arith))
  ]) x.labels t.reached;
  left_out = λ m c is r none. elim r [
    | inl h ↦ elim (cases_lt (p + 1) (priority_of s.candidates m)) [
      | inl more ↦ t.left_out m c is (inl more) none
      | inr same ↦ t.left_out m c is (inr (omega arith, omega arith)) none
    ]
    | inr h ↦ (let w = slice_get_within s.candidates m c is in absurd (omega (arith, h.1)))
  ];
  candidates = t.candidates;
}

-- the priority of a candidate
pub priority-is : (cs : List CandidateValue) (m : ℕ) (c : CandidateValue) → slice_get cs m ≡ Some c → priority_of cs m ≡ c.label.priority
priority-is cs m c is = rw is refl

-- before anything is tried
pub starts : (s : Setting) (x : PlacingValue) → AreWithinPriorities s.candidates → x ≡ record { labels = []; candidates = [] } → IsPlacedTo s 10 (length s.candidates) x
starts s x within e = rw e (record {
  order = λ i j d lt h. absurd (omega arith);
  stands = λ k label is. absurd (none-some label is);
  reached = λ k d h. absurd (omega arith);
  left_out = λ m c is r none. elim r [
    | inl h ↦ (
        let w = slice_get_within s.candidates m c is in
        let most = rw (get_or_from_slice_get s.candidates m c c is) at (within m c w) in
        absurd (omega (arith, h, most.1, priority-is s.candidates m c is)))
    | inr h ↦ (let w = slice_get_within s.candidates m c is in absurd (omega (arith, h.1)))
  ];
  candidates = record {};
})

-- after all was tried
pub ends : (s : Setting) (x : PlacingValue) → AreWithinPriorities s.candidates → IsPlacedTo s 0 (length s.candidates) x → IsPlacement s x.labels
ends s x within t = record {
  order = t.order;
  stands = t.stands;
  left_out = λ m c is none.
      let w = slice_get_within s.candidates m c is in
      let least = rw (get_or_from_slice_get s.candidates m c c is) at (within m c w) in
      t.left_out m c is (inl (omega (arith, least.0, priority-is s.candidates m c is))) none;
}

-- how a tried candidate changes the labels
pub step-tries : (s : Setting) (p n : ℕ) (c : CandidateValue) (old new : PlacingValue) → IsPlacedTo s p (n + 1) old → slice_get s.candidates n ≡ Some c →
    c.label.priority ≡ p → Tries s.page n c old new → IsPlacedTo s p n new
step-tries s p n c old new t is e tries = elim tries [
  | inl adds ↦ step-adds s p n c old new t is (priority-is s.candidates n c is ∙ e) adds
  | inr leaves ↦ rw leaves.same (step-leaves s p n c old t is leaves.none)
]
