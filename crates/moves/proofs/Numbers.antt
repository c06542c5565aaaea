-- Numbers that are counted from elsewhere.
use Rattle.std.proofs.Common.{◌≡◌, arith}
use Rattle.std.proofs.lemmas.Int.{ints}
use Rattle.std.specs.Int.{int_div_euclid}
use Rattle.std.specs.Prelude.{int_le, int_lt}
use lib.IntN.{ℤ, pos, ◌-ℤ◌, ◌*ℤ◌}
use Rattle.geom.proofs.Products.{lt_of, is_lt, same_order, same_test}
use Rattle.geom.proofs.Quotients.{quotient_is, quotient_parts}

-- their differences and their order are the same
pub differ : (a b k : ℤ) → (a -ℤ k) -ℤ (b -ℤ k) ≡ a -ℤ b
differ a b k = omega (arith, ints)

pub le-from : (a b k : ℤ) → int_le (a -ℤ k) (b -ℤ k) ≡ int_le a b
le-from a b k = same_order (a -ℤ k) (b -ℤ k) a b (λ h. omega (arith, ints)) (λ h. omega (arith, ints))

pub lt-from : (a b k : ℤ) → int_lt (a -ℤ k) (b -ℤ k) ≡ int_lt a b
lt-from a b k =
    same_test (int_lt (a -ℤ k) (b -ℤ k)) (int_lt a b) (λ h. is_lt a b (omega (arith, ints, lt_of (a -ℤ k) (b -ℤ k) h)))
    (λ h. is_lt (a -ℤ k) (b -ℤ k) (omega (arith, ints, lt_of a b h)))

-- so is an order of two differences where each is
pub le-by : (a b c d : ℤ) → b -ℤ a ≡ d -ℤ c → int_le a b ≡ int_le c d
le-by a b c d e = same_order a b c d (λ h. omega (arith, ints, e)) (λ h. omega (arith, ints, e))

-- a quotient by 16 is less by what is taken from the number sixteen times
pub sixteenth-from : (x k : ℤ) → int_div_euclid (x -ℤ pos 16 *ℤ k) (pos 16) ≡ int_div_euclid x (pos 16) -ℤ k
sixteenth-from x k =
    let parts = quotient_parts x (pos 16) (omega (arith, ints)) in
    quotient_is (x -ℤ pos 16 *ℤ k) (pos 16) (int_div_euclid x (pos 16) -ℤ k) (omega (arith, ints)) (omega (arith, ints, parts.0)) (omega (arith, ints, parts.1))
