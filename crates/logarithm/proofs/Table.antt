-- The listed ordinates, one after another.
use Rattle.std.proofs.Common.{◌≡◌, ℕ, suc, zero, ◌+◌, ◌-◌, ◌*◌, ◌/◌, ◌<◌, ◌&&◌, Bool, true, List, [], ◌∷◌, drop, length, refl, subst, ap, arith}
use Rattle.std.proofs.lemmas.Bool.{and_parts}
use Rattle.std.proofs.lemmas.Bool.Decides.{nat_tests}
use Rattle.std.specs.Prelude.{nat_le, slice_index_or}
use Rattle.mercator.specs.declared.table.TheConstants.{ORDINATES}
use Rattle.mercator.specs.Ordinate.{rise}
use Rattle.logarithm.specs.Nearest.{AreNear, Between, exact, exponential, exponential_of, next_tangent, NumbersAreNearest, one, product, tangent, unit, units}

abbrev are_near : Between → Between → Bool
are_near a b = nat_le (a.high * one) (b.low * (one + unit.low / 2)) && nat_le (b.high * one) (a.low * (one + unit.low / 2))

-- the tangents and the exponentials of a list of ordinates are near, from two of them on
all_near : Between → Between → List ℕ → Bool
all_near t e [] = true
all_near t e (a ∷ []) = are_near t e
all_near t e (a ∷ b ∷ rest) = are_near t e && all_near (next_tangent t) (product e (exponential_of (units (b - a)))) (b ∷ rest)

table-near : all_near (exact one) (exact one) ORDINATES ≡ true
unfolding all_near
table-near = refl

table-length : length ORDINATES ≡ 10387
table-length = refl

near-of : (a b : Between) → are_near a b ≡ true → AreNear a b
near-of a b e =
    let parts = and_parts (nat_le (a.high * one) (b.low * (one + unit.low / 2))) (nat_le (b.high * one) (a.low * (one + unit.low / 2))) e in
    record { above = grind (arith, nat_tests, parts.0); below = grind (arith, nat_tests, parts.1) }

-- what stands at the head of the rest of a list
record IsHead (xs : List ℕ) (k a : ℕ) (rest : List ℕ) : Type 0 where
  pub at : slice_index_or xs k 0 ≡ a
  pub after : drop (suc k) xs ≡ rest

head-of : (xs : List ℕ) (k a : ℕ) (rest : List ℕ) → drop k xs ≡ a ∷ rest → IsHead xs k a rest
head-of [] zero a rest e = absurd (omega (arith, ap length e))
head-of [] (suc k) a rest e = absurd (omega (arith, ap length e))
head-of (x ∷ xs) zero a rest e = record { at = cc; after = cc }
head-of (x ∷ xs) (suc k) a rest e = let is = head-of xs k a rest e in record { at = is.at; after = is.after }

-- from so many steps on, the list's own tangents and exponentials are those that the law speaks of
from-step : (xs : List ℕ) (k i : ℕ) → drop k ORDINATES ≡ xs → all_near (tangent k) (exponential k) xs ≡ true → i < length xs →
    AreNear (tangent (k + i)) (exponential (k + i))
unfolding all_near tangent exponential
from-step [] k i rest e h = absurd (omega (arith, h))
from-step (a ∷ []) k zero rest e h = subst (λ n. AreNear (tangent n) (exponential n)) (omega arith) (near-of (tangent k) (exponential k) e)
from-step (a ∷ []) k (suc i) rest e h = absurd (omega (arith, h))
from-step (a ∷ b ∷ xs) k zero rest e h =
    let parts = and_parts (are_near (tangent k) (exponential k)) (all_near (next_tangent (tangent k)) (product (exponential k) (exponential_of (units (b - a)))) (b ∷ xs)) e in
    subst (λ n. AreNear (tangent n) (exponential n)) (omega arith) (near-of (tangent k) (exponential k) parts.0)
from-step (a ∷ b ∷ xs) k (suc i) rest e h =
    let parts = and_parts (are_near (tangent k) (exponential k)) (all_near (next_tangent (tangent k)) (product (exponential k) (exponential_of (units (b - a)))) (b ∷ xs)) e in
    let first = head-of ORDINATES k a (b ∷ xs) rest in
    let second = head-of ORDINATES (suc k) b xs first.after in
    let next : rise k ≡ b - a = rise-is k a b first.at second.at in
    subst (λ n. AreNear (tangent n) (exponential n)) (omega arith)
    (from-step (b ∷ xs) (suc k) i first.after (rw next parts.1) (omega (arith, h)))
  where
    rise-is : (k a b : ℕ) → slice_index_or ORDINATES k 0 ≡ a → slice_index_or ORDINATES (suc k) 0 ≡ b → rise k ≡ b - a
    rise-is k a b x y = let more : k + 1 ≡ suc k = omega arith in rw (more, x, y) refl

from-start : all_near (tangent 0) (exponential 0) ORDINATES ≡ true
unfolding tangent exponential
from-start = table-near

pub numbers-law : NumbersAreNearest
numbers-law k h =
    let same : 0 + k ≡ k = omega arith in
    subst (λ n. AreNear (tangent n) (exponential n)) same (from-step ORDINATES 0 k refl from-start (omega (arith, h, table-length)))
