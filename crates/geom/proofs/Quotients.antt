-- Quotients that are rounded down.
use Rattle.std.proofs.Common.{◌≡◌, ℕ, ◌+◌, arith}
use Rattle.std.proofs.Math.Nat.{mul-le-mul_right, div-le_self}
use Rattle.std.proofs.lemmas.Int.{ints, by_lt_z}
use Rattle.std.specs.Int.{int_div_euclid}
use Rattle.std.specs.Prelude.{int_le}
use borrow.Author.Differences.{up, down}
use lib.IntN.{ℤ, pos, negsuc, neg_ℤ, ◌+ℤ◌, ◌*ℤ◌}
use lib.Signed.{◌<ℤ◌, ◌≤ℤ◌}
use Rattle.geom.specs.Range.{IsBelow}
use Rattle.geom.proofs.Products.{neg-mul, add-mul, product_nonneg, same_order}

-- a quotient is no larger than the number that is divided
pub quotient-below : (limit : ℕ) (m k : ℤ) → pos 0 <ℤ k → IsBelow limit m → IsBelow limit (int_div_euclid m k)
quotient-below limit (pos m) (pos k) p h = record { above = omega (arith, ints, div-le_self m k); below = omega (arith, ints, div-le_self m k) }
quotient-below limit (pos m) (negsuc k) p h = absurd (omega (arith, ints))
quotient-below limit (negsuc m) (pos k) p h = record { above = omega (arith, ints, div-le_self m k); below = omega (arith, ints, div-le_self m k) }
quotient-below limit (negsuc m) (negsuc k) p h = absurd (omega (arith, ints))

-- the quotient is the greatest number whose product with the divisor is not above the number
pub quotient_parts : (m k : ℤ) → pos 0 <ℤ k → ((int_div_euclid m k *ℤ k) ≤ℤ m) × (m <ℤ (int_div_euclid m k *ℤ k +ℤ k))
quotient_parts (pos m) (pos k) h = (omega (arith, ints), omega (arith, ints))
quotient_parts (pos m) (negsuc k) h = absurd (omega (arith, ints))
quotient_parts (negsuc m) (pos k) h = (omega (arith, ints), omega (arith, ints))
quotient_parts (negsuc m) (negsuc k) h = absurd (omega (arith, ints))

-- a number whose product is less than that of n + 1 is at most n
pub at_most-by_product : (m n k : ℤ) → pos 0 <ℤ k → (m *ℤ k) <ℤ (n *ℤ k +ℤ k) → m ≤ℤ n
at_most-by_product m n (pos k) h e =
    by_lt_z n m
    (λ (more : n <ℤ m). absurd (omega (arith, ints, mul-le-mul_right {m = up n + down m + 1} {n = up m + down n} k (omega (arith, ints)))))
    (λ (most : m ≤ℤ n). most)
at_most-by_product m n (negsuc k) h e = absurd (omega (arith, ints))

-- no other number is the quotient
pub quotient_is : (m k q : ℤ) → pos 0 <ℤ k → (q *ℤ k) ≤ℤ m → m <ℤ (q *ℤ k +ℤ k) → int_div_euclid m k ≡ q
quotient_is m k q h low high =
    let parts = quotient_parts m k h in
    let most : int_div_euclid m k ≤ℤ q = at_most-by_product (int_div_euclid m k) q k h (omega (arith, ints, parts.0)) in
    let least : q ≤ℤ int_div_euclid m k = at_most-by_product q (int_div_euclid m k) k h (omega (arith, ints, parts.1)) in
    omega (arith, ints)

-- so many times k and m are no less than 0 from the opposite of the quotient on
pub least_from : (m k i : ℤ) → pos 0 <ℤ k → int_le (pos 0) (i *ℤ k +ℤ m) ≡ int_le (neg_ℤ (int_div_euclid m k)) i
least_from m k i h =
    let q = int_div_euclid m k in
    let parts = quotient_parts m k h in
    same_order (pos 0) (i *ℤ k +ℤ m) (neg_ℤ q) i
    (λ (some : pos 0 ≤ℤ (i *ℤ k +ℤ m)).
    let most : neg_ℤ i ≤ℤ q = at_most-by_product (neg_ℤ i) q k h (omega (arith, ints, parts.1, neg-mul i k)) in
    omega (arith, ints))
    (λ (least : neg_ℤ q ≤ℤ i).
    omega (arith, ints, parts.0, add-mul i q k, product_nonneg (i +ℤ q) k (omega (arith, ints)) (omega (arith, ints))))
