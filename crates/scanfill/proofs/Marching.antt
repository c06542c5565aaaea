-- Crossings go on from row to row.
use Rattle.std.proofs.Common.{◌≡◌, ◌∙◌, ℕ, ◌+◌, ◌<◌, ◌≤◌, Bool, cond, List, length, get_or, set, refl, sym, ap, arith, ⊎_elim}
use Rattle.std.proofs.lemmas.Bool.{cases_lt, cases_eq}
use Rattle.std.proofs.lemmas.List.{get_or-set_same, get_or-set_other, length-set}
use Rattle.std.proofs.lemmas.List.Edits.{length-swap, swapped_from_swap}
use Rattle.std.proofs.lemmas.List.Sorted.{IsPermutation-swap, sum_by-IsPermutation}
use Rattle.std.proofs.lemmas.List.Sums.{sum_by-set}
use Rattle.std.specs.List.{count_by, swap}
use Rattle.scanfill.specs.Crossing.{AreOrdered, HaveGoneOn, IsNext, end_of, reaches, row_of}
use Rattle.scanfill.specs.declared.crossing.Crossing.{Crossing}

-- none has gone on yet
pub gone-none : (list : List Crossing) (row passed begun : ℕ) → AreOrdered list row passed begun → HaveGoneOn list list row passed passed
gone-none list row passed begun o = record {
  width = refl;
  rising = omega arith;
  ended = λ k d h. omega (arith, o.ended k d h);
  active = λ k d from past. absurd (omega arith);
  rest = λ k d from past. refl;
  counts = λ i j h. refl;
}

-- one ends, and is swapped with the first that doesn't
pub gone-ended : (old list : List Crossing) (row passed at : ℕ) → HaveGoneOn old list row passed at → at < length list →
    ((d : Crossing) → end_of (get_or list at d) ≡ row + 1) → HaveGoneOn old (swap list passed at) row (passed + 1) (at + 1)
gone-ended old list row passed at gone bound ends =
    let before : passed ≤ at = gone.rising in
    record {
      width = length-swap list passed at ∙ gone.width;
      rising = omega arith;
      ended = λ k d h.
          let moved = swapped_from_swap list (swap list passed at) passed at d (omega arith) bound refl in
          ⊎_elim
          (λ (lt : k < passed). rw (moved.2 k (λ e. omega arith) (λ e. omega arith)) (gone.ended k d lt))
          (λ (ge : passed ≤ k). let same : k ≡ passed = omega arith in rw (same, moved.0) (omega (arith, ends d)))
          (cases_lt k passed);
      active = λ k d from past.
          let moved = swapped_from_swap list (swap list passed at) passed at d (omega arith) bound refl in
          ⊎_elim
          (λ (same : k ≡ at). rw (same, moved.1) (gone.active passed d (omega arith) (omega arith)))
          (λ (other : k ≡ at → ⊥). rw (moved.2 k (λ e. omega arith) other) (gone.active k d (omega arith) (omega (arith, other))))
          (cases_eq k at);
      rest = λ k d from past.
          let moved = swapped_from_swap list (swap list passed at) passed at d (omega arith) bound refl in
          moved.2 k (λ e. omega arith) (λ e. omega arith) ∙ gone.rest k d (omega arith) past;
      counts = λ i j h.
          sum_by-IsPermutation (λ c. cond (reaches i j c) 1 0) list (swap list passed at) (IsPermutation-swap list (swap list passed at) passed at (omega arith) bound refl)
          ∙ gone.counts i j h;
    }

-- what an element adds to a count
abbrev share : (Crossing → Bool) → Crossing → ℕ
share p c = cond {A = ℕ} (p c) 1 0

-- a list with one element instead of another counts as before, where the test has the same result for both
count-set : (p : Crossing → Bool) (list : List Crossing) (at : ℕ) (was now : Crossing) → at < length list → was ≡ get_or list at was → p now ≡ p was →
    count_by p (set list at now) ≡ count_by p list
count-set p list at was now bound is same =
    let one : share p now ≡ share p was = ap (λ (b : Bool). cond {A = ℕ} b 1 0) same in
    let read : share p (get_or list at was) ≡ share p was = ap (share p) (sym is) in
    omega (arith, sum_by-set (share p) list at now was bound, one, read)

-- one goes on
pub gone-on : (old list : List Crossing) (row passed at : ℕ) (was now : Crossing) → HaveGoneOn old list row passed at → at < length list →
    was ≡ get_or list at was → row_of was ≡ row → row + 1 < end_of was → IsNext was now → HaveGoneOn old (set list at now) row passed (at + 1)
gone-on old list row passed at was now gone bound is stands lasts next =
    let before : passed ≤ at = gone.rising in
    record {
      width = length-set list at now ∙ gone.width;
      rising = omega arith;
      ended = λ k d h. rw (get_or-set_other list at k now d (λ e. omega arith)) (gone.ended k d h);
      active = λ k d from past. ⊎_elim
          (λ (same : k ≡ at). rw (same, get_or-set_same list at now d bound) (next.row ∙ ap (λ n. n + 1) stands, omega (arith, next.end)))
          (λ (other : k ≡ at → ⊥). rw (get_or-set_other list at k now d other) (gone.active k d from (omega (arith, other))))
          (cases_eq k at);
      rest = λ k d from past. get_or-set_other list at k now d (λ e. omega arith) ∙ gone.rest k d (omega arith) past;
      counts = λ i j h. count-set (reaches i j) list at was now bound is (next.same i j (omega arith)) ∙ gone.counts i j h;
    }

-- crossings in the order of their rows are at the first one
pub ordered-first : (list : List Crossing) (started : ℕ) → ((k : ℕ) (d : Crossing) → k < length list → row_of (get_or list k d) < end_of (get_or list k d)) →
    ((k l : ℕ) (d : Crossing) → k ≤ l → l < length list → row_of (get_or list k d) ≤ row_of (get_or list l d)) → started ≤ length list →
    ((k : ℕ) (d : Crossing) → 0 ≤ k → k < started → row_of (get_or list k d) ≡ 0) →
    ((k : ℕ) (d : Crossing) → started ≤ k → k < length list → 0 < row_of (get_or list k d)) → AreOrdered list 0 0 started
ordered-first list started some order bound begin waits = record {
  within = bound;
  rising = omega arith;
  below = omega arith;
  ended = λ k d h. absurd (omega arith);
  active = λ k d from past. (begin k d (omega arith) past, omega (arith, some k d (omega arith)));
  waiting = waits;
  some = λ k d from past. some k d past;
  order = λ k l d from le past. order k l d le past;
}
