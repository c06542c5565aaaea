-- A quotient that goes on by steps.
use Rattle.std.proofs.Common.{◌≡◌, ◌∙◌, ℕ, arith}
use Rattle.std.proofs.lemmas.Int.{ints}
use Rattle.std.specs.Int.{int_div_euclid}
use lib.IntN.{ℤ, pos, ◌+ℤ◌, ◌-ℤ◌, ◌*ℤ◌}
use lib.Signed.{◌<ℤ◌, ◌≤ℤ◌}
use Rattle.geom.specs.Range.{IsBelow}
use Rattle.geom.proofs.Products.{sub-mul}
use Rattle.geom.proofs.Quotients.{quotient_parts, quotient_is}

-- what a quotient leaves is from 0 to below the divisor
pub left-parts : (m k : ℤ) → pos 0 <ℤ k → (pos 0 ≤ℤ (m -ℤ int_div_euclid m k *ℤ k)) × ((m -ℤ int_div_euclid m k *ℤ k) <ℤ k)
left-parts m k h = let parts = quotient_parts m k h in (omega (arith, ints, parts.0), omega (arith, ints, parts.1))

pub left-below : (limit : ℕ) (m k : ℤ) → pos 0 <ℤ k → IsBelow limit k → IsBelow limit (m -ℤ int_div_euclid m k *ℤ k)
left-below limit m k h b =
    let parts = left-parts m k h in
    record { above = omega (arith, ints, parts.0, parts.1); below = omega (arith, ints, parts.0, parts.1) }

-- the quotient of a number less s divisors and a rest: one less where what is left doesn't cover the rest
pub quotient-fewer : (m k s rest next : ℤ) → pos 0 <ℤ k → pos 0 ≤ℤ rest → rest <ℤ k → next ≡ m -ℤ (s *ℤ k +ℤ rest) →
    (m -ℤ int_div_euclid m k *ℤ k) <ℤ rest → int_div_euclid next k ≡ int_div_euclid m k -ℤ s -ℤ pos 1
quotient-fewer m k s rest next some least most same short =
    let q = int_div_euclid m k in
    let parts = left-parts m k some in
    let times : (q -ℤ s -ℤ pos 1) *ℤ k ≡ q *ℤ k -ℤ s *ℤ k -ℤ k = sub-mul (q -ℤ s) (pos 1) k ∙ rw (sub-mul q s k) (omega (arith, ints)) in
    quotient_is next k (q -ℤ s -ℤ pos 1) some
    (rw (times, same) (omega (arith, ints, parts.0)))
    (rw (times, same) (omega (arith, ints, short)))

pub quotient-same : (m k s rest next : ℤ) → pos 0 <ℤ k → pos 0 ≤ℤ rest → rest <ℤ k → next ≡ m -ℤ (s *ℤ k +ℤ rest) →
    rest ≤ℤ (m -ℤ int_div_euclid m k *ℤ k) → int_div_euclid next k ≡ int_div_euclid m k -ℤ s
quotient-same m k s rest next some least most same enough =
    let q = int_div_euclid m k in
    let parts = left-parts m k some in
    let times : (q -ℤ s) *ℤ k ≡ q *ℤ k -ℤ s *ℤ k = sub-mul q s k in
    quotient_is next k (q -ℤ s) some
    (rw (times, same) (omega (arith, ints, enough)))
    (rw (times, same) (omega (arith, ints, parts.1)))
