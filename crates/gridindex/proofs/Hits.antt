-- What is found, index after index.
use Rattle.std.proofs.Common.{◌≡◌, ℕ, ◌<◌, ◌≤◌, ◌+◌, List, [], ◌∷◌, ◌++◌, length, get_or, nat_eq, arith, sym, ◌∙◌, ⊎_elim}
use Rattle.std.proofs.lemmas.Bool.{cases_lt, eqb-false}
use Rattle.std.proofs.lemmas.List.Elements.{Contains-push, Contains-push_cases, Contains-append_left}
use Rattle.std.proofs.lemmas.List.Sorted.{Contains-permutation, IsPermutation-sym}
use Rattle.std.proofs.lemmas.Map.Keys.{apart_from_distinct, IsStrictlyIncreasing-from_distinct}
use Rattle.std.proofs.lemmas.Option.{slice_get_within, slice_get-get_or}
use Rattle.std.specs.List.{Contains, IsDistinct}
use Rattle.std.specs.List.Sorted.{IsPermutation, IsNonDecreasing}
use Rattle.geom.specs.World.{Area}
use Rattle.gridindex.specs.Groups.{HasFound, IsOrder, Misses}
use Rattle.gridindex.specs.Window.{IsAnswer, MeetsAt}
use Rattle.gridindex.proofs.Orders.{once-more, once-none, once-permuted}

-- an element that is read with one default is read with any
pub at-default : (xs : List ℕ) (i d x : ℕ) → i < length xs → get_or xs i x ≡ x → get_or xs i d ≡ x
at-default xs i d x p e =
    let a = slice_get-get_or xs i d p in
    let b = slice_get-get_or xs i x p in
    cc

-- at the start nothing is found
pub found-none : (window : Area) (boxes : List Area) (order : List ℕ) → HasFound window boxes order 0 []
found-none window boxes order = record {
  once = once-none;
  meets = λ k c. absurd (omega (arith, c.1));
  before = λ k c. absurd (omega (arith, c.1));
  each = λ i (h : i < 0) m. absurd (omega (arith, h));
}

-- nothing more where the window misses
pub found-missed : (window : Area) (boxes : List Area) (order found : List ℕ) (from end : ℕ) → from ≤ end →
    Misses window boxes order from end → HasFound window boxes order from found → HasFound window boxes order end found
found-missed window boxes order found from end le missed h = record {
  once = h.once;
  meets = h.meets;
  before = λ k c. let o = h.before k c in (o.0, omega (arith, le, o.1), o.2);
  each = λ i (lt : i < end) m. ⊎_elim
      (λ (a : i < from). h.each i a m)
      (λ (b : from ≤ i). absurd (missed i b lt m))
      (cases_lt i from);
}

-- a box that meets the window
pub found-more : (window : Area) (boxes : List Area) (order found : List ℕ) (at index : ℕ) → IsDistinct nat_eq order → at < length order →
    index ≡ get_or order at 0 → MeetsAt window boxes index → HasFound window boxes order at found → HasFound window boxes order (at + 1) (found ++ index ∷ [])
found-more window boxes order found at index once inside is meets h = record {
  once = once-more found index h.once (λ c.
      let o = h.before index c in
      let i : ℕ = o.0 in
      let lt : i < at = o.1 in
      let e : get_or order i 0 ≡ index = o.2 in
      eqb-false (get_or order i 0) (get_or order at 0) (apart_from_distinct nat_eq order i at 0 once lt inside) (e ∙ is));
  meets = λ k c. ⊎_elim (h.meets k) (λ (e : index ≡ k). rw (← e) meets) (Contains-push_cases found index k c);
  before = λ k c. ⊎_elim
      (λ d. let o = h.before k d in (o.0, omega (arith, o.1), o.2))
      (λ (e : index ≡ k). (at, omega arith, sym is ∙ e))
      (Contains-push_cases found index k c);
  each = λ i (lt : i < at + 1) m. ⊎_elim
      (λ (a : i < at). Contains-append_left found (index ∷ []) (get_or order i 0) (h.each i a m))
      (λ (b : at ≤ i). let e : i ≡ at = omega arith in rw (e, ← is) (Contains-push found index))
      (cases_lt i at);
}

-- once all were tried, what was found is the answer in any order that rises
pub found-all : (window : Area) (boxes : List Area) (order found sorted : List ℕ) → IsOrder (length boxes) order →
    IsPermutation found sorted → IsNonDecreasing sorted → HasFound window boxes order (length order) found → IsAnswer window boxes sorted
found-all window boxes order found sorted o p rises h = record {
  rising = IsStrictlyIncreasing-from_distinct sorted rises (once-permuted found sorted p h.once);
  exact = λ k. (
    λ c. h.meets k (Contains-permutation sorted found k (IsPermutation-sym found sorted p) c),
    λ (m : MeetsAt window boxes k).
        let c = (o.exact k).1 (slice_get_within boxes k m.0 m.1) in
        let e : get_or order c.0 0 ≡ k = at-default order c.0 0 k c.1 c.2 in
        let hit : Contains found (get_or order c.0 0) = h.each c.0 c.1 (rw e m) in
        Contains-permutation found sorted k p (rw e at hit),
  );
}
