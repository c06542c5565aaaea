-- Lists of numbers that rise.
use Rattle.std.proofs.Common.{◌≡◌, ℕ, ◌+◌, ◌<◌, ◌≤◌, List, [], ◌∷◌, get_or, nat_cmp, arith, ⊎_elim}
use Rattle.std.proofs.lemmas.Bool.{cases_eq}
use Rattle.std.proofs.lemmas.List.{get_or-append-add}
use Rattle.std.proofs.lemmas.Map.Keys.{below_from_sorted}
use Rattle.std.specs.List.{Contains}
use Rattle.std.specs.List.Sorted.{IsStrictlySortedBy}

-- the first number is the least
pub first-least : (y : ℕ) (ys : List ℕ) (x : ℕ) → IsStrictlySortedBy nat_cmp (y ∷ ys) → Contains (y ∷ ys) x → y ≤ x
first-least y ys x s c = ⊎_elim
    (λ (e : c.0 ≡ 0). let f : get_or (y ∷ ys) 0 x ≡ x = rw e at c.2 in omega (arith, f))
    (λ (p : c.0 ≡ 0 → ⊥).
    let lt = below_from_sorted (y ∷ ys) 0 c.0 x s (omega arith) c.1 in
    omega (arith, lt, c.2))
    (cases_eq c.0 0)

-- and below each further one
pub first-below : (y : ℕ) (ys : List ℕ) (x : ℕ) → IsStrictlySortedBy nat_cmp (y ∷ ys) → Contains ys x → y < x
first-below y ys x s c =
    let lt = below_from_sorted (y ∷ ys) 0 (1 + c.0) x s (omega arith) (omega (arith, c.1)) in
    let e = get_or-append-add (y ∷ []) ys c.0 x in
    omega (arith, lt, e, c.2)
