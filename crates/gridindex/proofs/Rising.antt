-- Lists that rise are one, if they have the same numbers.
use Rattle.std.proofs.Common.{◌≡◌, ℕ, ◌<◌, List, [], ◌∷◌, get_or, nat_cmp, arith, refl, ⊎_elim}
use Rattle.std.proofs.lemmas.List.Elements.{Contains-append_cases, Contains-append_right}
use Rattle.std.proofs.lemmas.Map.Keys.{sorted_from_strictly_increasing, sorted_tail}
use Rattle.std.specs.List.{Contains}
use Rattle.std.specs.List.Sorted.{IsStrictlySortedBy}
use Rattle.geom.proofs.Rising.{first-least, first-below}
use Rattle.gridindex.specs.Window.{AnswersAreOne}

-- a number that isn't the first is a further one
pub further : (y : ℕ) (ys : List ℕ) (x : ℕ) → Contains (y ∷ ys) x → y < x → Contains ys x
further y ys x c lt = ⊎_elim
    (λ (d : Contains (y ∷ []) x).
    let z : d.0 ≡ 0 = omega (arith, d.1) in
    let f : get_or (y ∷ []) 0 x ≡ x = rw z at d.2 in
    absurd (omega (arith, f)))
    (λ (d : Contains ys x). d)
    (Contains-append_cases (y ∷ []) ys x c)

-- a rising list is determined by its numbers
pub rising-one : (xs ys : List ℕ) → IsStrictlySortedBy nat_cmp xs → IsStrictlySortedBy nat_cmp ys →
    ((k : ℕ) → Contains xs k → Contains ys k) → ((k : ℕ) → Contains ys k → Contains xs k) → xs ≡ ys
rising-one [] [] s t f g = refl
rising-one [] (y ∷ ys) s t f g = let c = g y (0, omega arith, refl) in absurd (omega (arith, c.1))
rising-one (x ∷ xs) [] s t f g = let c = f x (0, omega arith, refl) in absurd (omega (arith, c.1))
rising-one (x ∷ xs) (y ∷ ys) s t f g =
    let a = first-least y ys x t (f x (0, omega arith, refl)) in
    let b = first-least x xs y s (g y (0, omega arith, refl)) in
    let e : x ≡ y = omega arith in
    let rest : xs ≡ ys = rising-one xs ys (sorted_tail nat_cmp x xs s) (sorted_tail nat_cmp y ys t)
    (λ k c. further y ys k (f k (Contains-append_right (x ∷ []) xs k c)) (rw (← e) (first-below x xs k s c)))
    (λ k c. further x xs k (g k (Contains-append_right (y ∷ []) ys k c)) (rw e (first-below y ys k t c))) in
    rw (e, rest) refl

-- the law
pub answers-law : AnswersAreOne
answers-law window boxes found other a b =
    rising-one found other (sorted_from_strictly_increasing found a.rising) (sorted_from_strictly_increasing other b.rising)
    (λ k c. (b.exact k).1 ((a.exact k).0 c)) (λ k c. (a.exact k).1 ((b.exact k).0 c))
