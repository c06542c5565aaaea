-- What machine integers hold of numbers of known sizes.
use Rattle.std.proofs.Common.{◌≡◌, ℕ, ◌^◌, ◌<◌, arith}
use Rattle.std.proofs.lemmas.Int.{ints, to_z-of_z, fits_signed_mul}
use Rattle.std.specs.Int.RustNames.{FitsSigned, unsigned_abs}
use lib.IntN.{ℤ, pos, negsuc, ◌-ℤ◌, ◌*ℤ◌}
use mir.Syntax.{w64, w128}
use mir.Val.{SFits, to_z, of_z}
use Rattle.geom.specs.Range.{IsBelow}

-- a number below a limit has a size below it
pub size-below : (limit : ℕ) (z : ℤ) → IsBelow limit z → unsigned_abs z < limit
size-below limit (pos n) h = omega (arith, ints)
size-below limit (negsuc n) h = omega (arith, ints)

-- what i128 holds of a number below 2 ^ 48
pub wide-below : (z : ℤ) → IsBelow (2 ^ 48) z → to_z w128 (of_z w128 z) ≡ z
wide-below z h = omega (arith, ints)

-- the product of two numbers below 2 ^ 48 fits i128
pub product-fits : (a b : ℤ) → IsBelow (2 ^ 48) a → IsBelow (2 ^ 48) b → FitsSigned w128 (a *ℤ b)
product-fits a b p q =
    fits_signed_mul w128 a b (2 ^ 48) (2 ^ 48) (omega (arith, size-below (2 ^ 48) a p)) (omega (arith, size-below (2 ^ 48) b q)) (omega arith)

-- also where the factors are as i128 holds them
pub words_product-fits : (a b : ℤ) → IsBelow (2 ^ 48) a → IsBelow (2 ^ 48) b → SFits w128 (to_z w128 (of_z w128 a) *ℤ to_z w128 (of_z w128 b))
words_product-fits a b p q = rw (wide-below a p, wide-below b q) (product-fits a b p q)

-- and is what i128 computes
pub product-is : (a b : ℤ) → IsBelow (2 ^ 48) a → IsBelow (2 ^ 48) b → to_z w128 (of_z w128 (to_z w128 (of_z w128 a) *ℤ to_z w128 (of_z w128 b))) ≡ a *ℤ b
product-is a b p q = rw (wide-below a p, wide-below b q) (to_z-of_z w128 (a *ℤ b) (product-fits a b p q))

-- what i128 holds of such a number is below the limit, too
pub wide-held : (z : ℤ) → IsBelow (2 ^ 48) z → IsBelow (2 ^ 48) (to_z w128 (of_z w128 z))
wide-held z h = rw (wide-below z h) h

-- what i64 holds of a coordinate
pub word-below : (z : ℤ) → IsBelow (2 ^ 47) z → to_z w64 (of_z w64 z) ≡ z
word-below z h = omega (arith, ints)

pub word-held : (a p : ℤ) → a ≡ p → IsBelow (2 ^ 47) p → IsBelow (2 ^ 47) (to_z w64 (of_z w64 a))
word-held a p e h = rw (e, word-below p h) h

-- the difference of two coordinates, as i64 holds them, and as i128 holds it
pub difference-is : (d a b p q : ℤ) → d ≡ to_z w64 (of_z w64 a) -ℤ to_z w64 (of_z w64 b) → a ≡ p → b ≡ q →
    IsBelow (2 ^ 47) p → IsBelow (2 ^ 47) q → to_z w128 (of_z w128 d) ≡ p -ℤ q
difference-is d a b p q h e f below_p below_q = rw (h, e, f) (omega (arith, ints))

-- the difference of two coordinates, as i64 computes it
pub coordinate_difference-is : (a b p q : ℤ) → a ≡ p → b ≡ q → IsBelow (2 ^ 47) p → IsBelow (2 ^ 47) q →
    to_z w64 (of_z w64 (to_z w64 (of_z w64 a) -ℤ to_z w64 (of_z w64 b))) ≡ p -ℤ q
coordinate_difference-is a b p q e f below_p below_q = rw (e, f) (omega (arith, ints))
