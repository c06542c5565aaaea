-- What is found, box after box.
use Rattle.std.proofs.Common.{◌≡◌, ℕ, ◌<◌, ◌≤◌, ◌+◌, List, [], ◌∷◌, ◌++◌, length, get_or, arith, sym, ⊎_elim}
use Rattle.std.proofs.lemmas.Bool.{cases_lt}
use Rattle.std.proofs.lemmas.List.{get_or_append_left, get_or_push, length_push}
use Rattle.std.proofs.lemmas.List.Elements.{Contains-append_left, Contains-push, Contains-push_cases}
use Rattle.std.proofs.lemmas.Option.{slice_get-get_or, slice_get_within}
use Rattle.std.specs.List.{Contains}
use Rattle.std.specs.List.Sorted.{IsStrictlyIncreasing}
use Rattle.geom.specs.World.{Area}
use Rattle.gridindex.specs.Window.{IsAnswer, IsAnswerOfFirst, MeetsAt}

-- an element at an index is contained
contained : (xs : List ℕ) (k : ℕ) → k < length xs → Contains xs (get_or xs k 0)
contained xs k h =
    let a = slice_get-get_or xs k 0 h in
    let b = slice_get-get_or xs k (get_or xs k 0) h in
    let same : get_or xs k (get_or xs k 0) ≡ get_or xs k 0 = cc in
    (k, h, same)

-- a rising list rises when a greater number comes after it
rising-push : (xs : List ℕ) (n : ℕ) → IsStrictlyIncreasing xs → ((k : ℕ) → Contains xs k → k < n) → IsStrictlyIncreasing (xs ++ n ∷ [])
rising-push xs n rising below = λ k h. ⊎_elim
    (λ (inside : k + 1 < length xs). omega (arith, rising k inside, get_or_append_left xs (n ∷ []) 0 k (omega arith), get_or_append_left xs (n ∷ []) 0 (k + 1) inside))
    (λ (last : length xs ≤ k + 1).
    let end : k + 1 ≡ length xs = omega (arith, length_push xs n, h) in
    let before : k < length xs = omega arith in
    omega (arith, below (get_or xs k 0) (contained xs k before), get_or_append_left xs (n ∷ []) 0 k before, get_or_push xs n 0 (k + 1) (sym end)))
    (cases_lt (k + 1) (length xs))

-- nothing is found among no boxes
pub first-none : (window : Area) (boxes : List Area) → IsAnswerOfFirst window boxes 0 []
first-none window boxes = record {
  rising = λ k h. absurd (omega (arith, h));
  exact = λ k. (λ c. absurd (omega (arith, c.1)), λ h. absurd (omega (arith, h.0)));
}

-- one more box, which meets the window or doesn't
pub first-hit : (window : Area) (boxes : List Area) (n : ℕ) (found : List ℕ) → MeetsAt window boxes n → IsAnswerOfFirst window boxes n found → IsAnswerOfFirst window boxes (n + 1) (found ++ n ∷ [])
first-hit window boxes n found meets so = record {
  rising = rising-push found n so.rising (λ k c. ((so.exact k).0 c).0);
  exact = λ k. (
    λ c. ⊎_elim
        (λ (d : Contains found k). let both = (so.exact k).0 d in (omega (arith, both.0), both.1))
        (λ (e : n ≡ k). (omega (arith, e), rw (← e) meets))
        (Contains-push_cases found n k c),
    λ h. ⊎_elim
        (λ (lt : k < n). Contains-append_left found (n ∷ []) k ((so.exact k).1 (lt, h.1)))
        (λ (ge : n ≤ k). let e : n ≡ k = omega (arith, h.0) in rw (← e) (Contains-push found n))
        (cases_lt k n),
  );
}

pub first-miss : (window : Area) (boxes : List Area) (n : ℕ) (found : List ℕ) → (MeetsAt window boxes n → ⊥) → IsAnswerOfFirst window boxes n found → IsAnswerOfFirst window boxes (n + 1) found
first-miss window boxes n found misses so = record {
  rising = so.rising;
  exact = λ k. (
    λ c. let both = (so.exact k).0 c in (omega (arith, both.0), both.1),
    λ h. ⊎_elim
        (λ (lt : k < n). (so.exact k).1 (lt, h.1))
        (λ (ge : n ≤ k). let e : k ≡ n = omega (arith, h.0) in absurd (misses (rw e at h.1)))
        (cases_lt k n),
  );
}

-- all boxes
pub first-all : (window : Area) (boxes : List Area) (n : ℕ) (found : List ℕ) → length boxes ≤ n → IsAnswerOfFirst window boxes n found → IsAnswer window boxes found
first-all window boxes n found all so = record {
  rising = so.rising;
  exact = λ k. (λ c. ((so.exact k).0 c).1, λ h. (so.exact k).1 (within k h, h));
}
  where
    within : (k : ℕ) → MeetsAt window boxes k → k < n
    within k h = omega (arith, slice_get_within boxes k h.0 h.1)
