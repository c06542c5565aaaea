-- What i128 holds of products.
use Rattle.std.proofs.Common.{◌≡◌, ℕ, ◌*◌, ◌^◌, ◌<◌, arith}
use Rattle.std.proofs.lemmas.Int.{ints, unsigned_abs-mul}
use Rattle.std.proofs.lemmas.Nat.{mul-lt}
use Rattle.std.specs.Int.RustNames.{unsigned_abs}
use lib.IntN.{ℤ, pos, negsuc, ◌*ℤ◌}
use lib.Signed.{mag}
use mir.Syntax.{w64, w128}
use mir.Val.{SFits, to_z, of_z}

-- i128 holds a number of 96 bits
pub fits : (z : ℤ) → unsigned_abs z < 2 ^ 96 → SFits w128 z
fits (pos n) h = omega (arith, ints)
fits (negsuc n) h = omega (arith, ints)

pub is : (z : ℤ) → unsigned_abs z < 2 ^ 96 → to_z w128 (of_z w128 z) ≡ z
is (pos n) h = omega (arith, ints)
is (negsuc n) h = omega (arith, ints)

-- i64 holds what one of its own numbers is
pub taken : (z : ℤ) → mag z < 2 ^ 63 → to_z w64 (of_z w64 z) ≡ z
taken z h = omega (arith, ints)

pub size : (z : ℤ) → mag z < 2 ^ 63 → unsigned_abs z < 2 ^ 64
size (pos n) h = omega (arith, ints)
size (negsuc n) h = omega (arith, ints)

-- a number of 64 bits times one of 30 has less than 96
pub product : (z : ℤ) (n : ℕ) → mag z < 2 ^ 63 → n < 2 ^ 30 → unsigned_abs (z *ℤ pos n) < 2 ^ 96
product z n h below =
    let least : unsigned_abs (z *ℤ pos n) < 2 ^ 64 * 2 ^ 30 = rw (unsigned_abs-mul z (pos n)) (mul-lt (unsigned_abs z) n (2 ^ 64) (2 ^ 30) (size z h) below) in
    omega (arith, least)
