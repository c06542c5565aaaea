-- The first so many of the numbers that pass are one list.
use Rattle.std.proofs.Common.{◌≡◌, ℕ, suc, ◌-◌, ◌<◌, ◌≤◌, List, [], ◌∷◌, length, All, inl, inr, ⊎_elim, arith, refl, sym}
use Rattle.std.proofs.lemmas.List.Elements.{Contains-append_right}
use Rattle.std.specs.List.{AllPairs, Contains}
use Rattle.mapdefs.proofs.Containing.{first_or}
use Rattle.vertices.proofs.Finding.{here}
use Rattle.featureinfo.specs.Hits.{AreFirst, HasOneHitList, IsHitAt}
use Rattle.featureinfo.proofs.Firsts.{of-all}

-- no element is in the empty list
in-none : (k : ℕ) → Contains [] k → ⊥
in-none k c = omega (arith, c.1)

-- numbers that rise are above the first of them
above : (x : ℕ) (xs : List ℕ) (k : ℕ) → AllPairs (λ a b. a < b) (x ∷ xs) → Contains xs k → x < k
above x xs k rising c = of-all (λ b. x < b) xs k (λ i e within. rising 0 (suc i) e (omega arith) (omega arith)) c

-- the first number is the least that passes
least : (wanted : ℕ → Type 0) (count x : ℕ) (xs : List ℕ) (k : ℕ) → AreFirst wanted count (x ∷ xs) → wanted k → x ≤ k
least wanted count x xs k f w = ⊎_elim
    (λ (c : Contains (x ∷ xs) k). ⊎_elim (λ (e : x ≡ k). omega (arith, e)) (λ (d : Contains xs k). omega (arith, above x xs k f.rising d)) (first_or x k xs c))
    (λ (full : (length (x ∷ xs) ≡ count) × All (λ g. g < k) (x ∷ xs)). omega (arith, full.1 0 x (omega arith)))
    (f.others k w)

-- the others are the first of those above it that pass
others-first : (wanted : ℕ → Type 0) (count x : ℕ) (xs : List ℕ) → AreFirst wanted count (x ∷ xs) → AreFirst (λ k. wanted k × (x < k)) (count - 1) xs
others-first wanted count x xs f = record {
  rising = λ i j e lt within. f.rising (suc i) (suc j) e (omega arith) (omega arith);
  each = λ k c. (f.each k (Contains-append_right (x ∷ []) xs k c), above x xs k f.rising c);
  few = omega (arith, f.few);
  others = λ k w. ⊎_elim
      (λ (c : Contains (x ∷ xs) k). ⊎_elim (λ (e : x ≡ k). absurd (omega (arith, e, w.1))) (λ (d : Contains xs k). inl d) (first_or x k xs c))
      (λ (full : (length (x ∷ xs) ≡ count) × All (λ g. g < k) (x ∷ xs)). inr (omega (arith, full.0), (λ i e within. full.1 (suc i) e (omega arith))))
      (f.others k w.0);
}

-- where the list is empty and some number passes, there is no room
empty-full : (wanted : ℕ → Type 0) (count k : ℕ) → AreFirst wanted count [] → wanted k → count ≡ 0
empty-full wanted count k f w = ⊎_elim
    (λ (c : Contains [] k). absurd (in-none k c))
    (λ (full : (length {A = ℕ} [] ≡ count) × All (λ g. g < k) []). omega (arith, full.0))
    (f.others k w)

pub one-first : (wanted : ℕ → Type 0) (count : ℕ) (a b : List ℕ) → AreFirst wanted count a → AreFirst wanted count b → a ≡ b
one-first wanted count [] [] f g = refl
one-first wanted count [] (y ∷ ys) f g = absurd (omega (arith, g.few, empty-full wanted count y f (g.each y (here y ys))))
one-first wanted count (x ∷ xs) [] f g = absurd (omega (arith, f.few, empty-full wanted count x g (f.each x (here x xs))))
one-first wanted count (x ∷ xs) (y ∷ ys) f g =
    let same : x ≡ y = omega (arith, least wanted count x xs y f (g.each y (here y ys)), least wanted count y ys x g (f.each x (here x xs))) in
    let rest : xs ≡ ys = one-first (λ k. wanted k × (x < k)) (count - 1) xs ys (others-first wanted count x xs f) (rw (sym same) at (others-first wanted count y ys g)) in
    rw (same, rest) refl

pub one-hit-list : HasOneHitList
one-hit-list scene layer i j count a b f g = one-first (IsHitAt scene layer i j) count a b f g
