-- The first so many of the numbers that pass are found one after another.
use Rattle.std.proofs.Common.{◌≡◌, ℕ, suc, ◌<◌, ◌≤◌, List, [], ◌∷◌, ◌++◌, length, All, inl, inr, ⊎_elim, arith, length-append, sym}
use Rattle.std.proofs.lemmas.List.Elements.{All-nil, All-cons, All-append, Contains-append_cases, Contains-append_left, Contains-append_right}
use Rattle.std.proofs.lemmas.List.Kept.{AllPairs-cons}
use Rattle.std.specs.List.{AllPairs, Contains}
use Rattle.mapdefs.proofs.Containing.{first_or}
use Rattle.vertices.proofs.Finding.{here}
use Rattle.featureinfo.specs.Hits.{AreFirstAmong}

-- an element of a list has what all have
pub of-all : {X : Type 0} (P : X → Type 0) (xs : List X) (x : X) → All P xs → Contains xs x → P x
of-all P [] x all c = absurd (omega (arith, c.1))
of-all {X} P (y ∷ xs) x all c = ⊎_elim
    (λ (e : y ≡ x). rw e at (all 0 y (omega arith)))
    (λ (d : Contains xs x). of-all P xs x (λ k e below. all (suc k) e (omega arith)) d)
    (first_or y x xs c)

-- of numbers that rise, one of the first ones is below one of the others
before-other : (xs ys : List ℕ) (x y : ℕ) → AllPairs (λ a b. a < b) (xs ++ ys) → Contains xs x → Contains ys y → x < y
before-other [] ys x y rising c d = absurd (omega (arith, c.1))
before-other (z ∷ xs) ys x y rising c d = ⊎_elim
    (λ (e : z ≡ x). let later : z < y = of-all (λ b. z < b) (xs ++ ys) y (λ k e' below. rising 0 (suc k) e' (omega arith) (omega arith)) (Contains-append_right xs ys y d) in omega (arith, e, later))
    (λ (f : Contains xs x). before-other xs ys x y (λ i j e' lt within. rising (suc i) (suc j) e' (omega arith) (omega arith)) f d)
    (first_or z x xs c)

-- numbers that rise and are all below another rise with it at the end
rising-more : (xs : List ℕ) (k : ℕ) → AllPairs (λ a b. a < b) xs → ((x : ℕ) → Contains xs x → x < k) → AllPairs (λ a b. a < b) (xs ++ k ∷ [])
rising-more [] k rising below = AllPairs-cons (λ a b. a < b) k [] (All-nil (λ b. k < b)) rising
rising-more (x ∷ xs) k rising below =
    AllPairs-cons (λ a b. a < b) x (xs ++ k ∷ [])
    (All-append (λ b. x < b) xs (k ∷ []) (λ i e within. rising 0 (suc i) e (omega arith) (omega arith)) (All-cons (λ b. x < b) k [] (below x (here x xs)) (All-nil (λ b. x < b))))
    (rising-more xs k (λ i j e lt within. rising (suc i) (suc j) e (omega arith) (omega arith)) (λ y c. below y (Contains-append_right (x ∷ []) xs y c)))

-- all are below a number that each is below
all-below : (xs : List ℕ) (k : ℕ) → ((x : ℕ) → Contains xs x → x < k) → All (λ x. x < k) xs
all-below [] k below = All-nil (λ x. x < k)
all-below (x ∷ xs) k below = All-cons (λ y. y < k) x xs (below x (here x xs)) (all-below xs k (λ y c. below y (Contains-append_right (x ∷ []) xs y c)))

-- the numbers that pass among those that were seen, while there is room
pub record SoFar (wanted : ℕ → Type 0) (count : ℕ) (seen found : List ℕ) : Type 0 where
  pub rising : AllPairs (λ a b. a < b) found
  pub each : (k : ℕ) → Contains found k → Contains seen k × wanted k
  pub few : length found ≤ count
  pub all : (k : ℕ) → Contains seen k → wanted k → Contains found k

module _ (wanted : ℕ → Type 0) (count : ℕ) where
  none : (k : ℕ) → Contains [] k → ⊥
  none k c = omega (arith, c.1)

  pub starts : SoFar wanted count [] []
  starts = record { rising = λ i j e lt within. absurd (omega arith); each = λ k c. absurd (none k c); few = omega arith; all = λ k c w. absurd (none k c) }

  only-is : (k m : ℕ) → Contains (k ∷ []) m → k ≡ m
  only-is k m c = ⊎_elim (λ (e : k ≡ m). e) (λ (d : Contains [] m). absurd (none m d)) (first_or k m [] c)

  pub skips : (seen found : List ℕ) (k : ℕ) → SoFar wanted count seen found → (wanted k → ⊥) → SoFar wanted count (seen ++ k ∷ []) found
  skips seen found k so not = record {
    rising = so.rising;
    each = λ m c. let e = so.each m c in (Contains-append_left seen (k ∷ []) m e.0, e.1);
    few = so.few;
    all = λ m c w. ⊎_elim (λ (d : Contains seen m). so.all m d w) (λ (d : Contains (k ∷ []) m). let is = only-is k m d in absurd (not (rw (sym is) at w))) (Contains-append_cases seen (k ∷ []) m c);
  }

  pub adds : (seen rest found : List ℕ) (k : ℕ) → AllPairs (λ a b. a < b) (seen ++ rest) → Contains rest k → SoFar wanted count seen found → length found < count → wanted k →
      SoFar wanted count (seen ++ k ∷ []) (found ++ k ∷ [])
  adds seen rest found k rises next so room w = record {
    rising = rising-more found k so.rising (λ x c. before-other seen rest x k rises (so.each x c).0 next);
    each = λ m c. ⊎_elim
        (λ (d : Contains found m). let e = so.each m d in (Contains-append_left seen (k ∷ []) m e.0, e.1))
        (λ (d : Contains (k ∷ []) m). (Contains-append_right seen (k ∷ []) m d, rw (only-is k m d) at w))
        (Contains-append_cases found (k ∷ []) m c);
    few = omega (arith, length-append found (k ∷ []), room);
    all = λ m c v. ⊎_elim
        (λ (d : Contains seen m). Contains-append_left found (k ∷ []) m (so.all m d v))
        (λ (d : Contains (k ∷ []) m). Contains-append_right found (k ∷ []) m d)
        (Contains-append_cases seen (k ∷ []) m c);
  }

  pub ends : (seen found : List ℕ) → SoFar wanted count seen found → AreFirstAmong wanted count seen found
  ends seen found so = record { rising = so.rising; each = so.each; few = so.few; others = λ k w. inl (so.all k w.0 w.1) }

  pub stops : (seen rest found : List ℕ) → AllPairs (λ a b. a < b) (seen ++ rest) → SoFar wanted count seen found → count ≤ length found → AreFirstAmong wanted count (seen ++ rest) found
  stops seen rest found rises so full = record {
    rising = so.rising;
    each = λ k c. let e = so.each k c in (Contains-append_left seen rest k e.0, e.1);
    few = so.few;
    others = λ k w. ⊎_elim
        (λ (d : Contains seen k). inl (so.all k d w.1))
        (λ (d : Contains rest k). inr (omega (arith, so.few), all-below found k (λ x c. before-other seen rest x k rises (so.each x c).0 d)))
        (Contains-append_cases seen rest k w.0);
  }
