-- Lists that have each index below a count once.
use Rattle.std.proofs.Common.{◌≡◌, ℕ, ◌<◌, ◌≤◌, ◌+◌, List, [], ◌∷◌, ◌++◌, nat_eq, arith, ⊎_elim}
use Rattle.std.proofs.lemmas.Bool.{cases_lt, eqb-true, false_from_ne_true}
use Rattle.std.proofs.lemmas.Cmp.{nat_eq_equiv}
use Rattle.std.proofs.lemmas.List.Elements.{Contains-push, Contains-push_cases, Contains-append_left}
use Rattle.std.proofs.lemmas.List.Sorted.{Contains-permutation, IsPermutation-sym}
use Rattle.std.proofs.lemmas.Map.Keys.{IsDistinct-push, IsDistinct-IsPermutation, IsDistinct-from_apart}
use Rattle.std.proofs.lemmas.Map.Views.{Contains-from_any}
use Rattle.std.specs.List.{Contains, IsDistinct, list_any}
use Rattle.std.specs.List.Sorted.{IsPermutation}
use Rattle.gridindex.specs.Groups.{IsOrder}

-- the empty list has no number twice
pub once-none : IsDistinct nat_eq []
once-none = IsDistinct-from_apart nat_eq [] (λ i j d p q. absurd (omega (arith, q)))

-- a number that wasn't in the list makes no repeat
pub once-more : (xs : List ℕ) (n : ℕ) → IsDistinct nat_eq xs → (Contains xs n → ⊥) → IsDistinct nat_eq (xs ++ n ∷ [])
once-more xs n once new =
    IsDistinct-push nat_eq_equiv xs n once (false_from_ne_true (list_any (nat_eq n) xs) (λ e. new (Contains-from_any eqb-true n xs e)))

-- nor does another order
pub once-permuted : (xs ys : List ℕ) → IsPermutation xs ys → IsDistinct nat_eq xs → IsDistinct nat_eq ys
once-permuted xs ys p once = IsDistinct-IsPermutation nat_eq nat_eq_equiv.symm xs ys p once

-- no index is below 0
pub order-none : IsOrder 0 []
order-none = record {
  once = once-none;
  exact = λ k. (λ c. absurd (omega (arith, c.1)), λ (h : k < 0). absurd (omega (arith, h)));
}

-- the next index makes one more
pub order-more : (n : ℕ) (xs : List ℕ) → IsOrder n xs → IsOrder (n + 1) (xs ++ n ∷ [])
order-more n xs o = record {
  once = once-more xs n o.once (λ c. let h : n < n = (o.exact n).0 c in omega arith);
  exact = λ k. (
    λ c. ⊎_elim (λ d. let h : k < n = (o.exact k).0 d in omega arith) (λ (e : n ≡ k). omega arith) (Contains-push_cases xs n k c),
    λ (h : k < n + 1). ⊎_elim
        (λ (lt : k < n). Contains-append_left xs (n ∷ []) k ((o.exact k).1 lt))
        (λ (ge : n ≤ k). let e : k ≡ n = omega arith in rw e (Contains-push xs n))
        (cases_lt k n),
  );
}

-- another order of the same indices
pub order-permuted : (n : ℕ) (xs ys : List ℕ) → IsPermutation xs ys → IsOrder n xs → IsOrder n ys
order-permuted n xs ys p o = record {
  once = once-permuted xs ys p o.once;
  exact = λ k. (
    λ c. (o.exact k).0 (Contains-permutation ys xs k (IsPermutation-sym xs ys p) c),
    λ h. Contains-permutation xs ys k p ((o.exact k).1 h),
  );
}
