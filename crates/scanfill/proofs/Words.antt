-- What machine integers hold of numbers of known sizes.
use Rattle.std.proofs.Common.{◌≡◌, ℕ, ◌*◌, ◌^◌, ◌<◌, ◌≤◌, arith}
use Rattle.std.proofs.lemmas.Int.{ints, unsigned_abs-mul}
use Rattle.std.proofs.lemmas.Nat.{mul-lt}
use Rattle.std.specs.Int.RustNames.{unsigned_abs}
use lib.IntN.{ℤ, pos, negsuc, neg_ℤ, ◌+ℤ◌, ◌-ℤ◌, ◌*ℤ◌}
use mir.Syntax.{w64, w128}
use mir.Val.{SFits, to_z, of_z}
use Rattle.geom.specs.Range.{IsBelow}
use Rattle.geom.proofs.Integers.{size-below}

-- i64 and i128 hold numbers below these limits
pub word : (limit : ℕ) (z : ℤ) → limit ≤ 2 ^ 63 → IsBelow limit z → to_z w64 (of_z w64 z) ≡ z
word limit z most h = omega (arith, ints)

pub wide : (limit : ℕ) (z : ℤ) → limit ≤ 2 ^ 127 → IsBelow limit z → to_z w128 (of_z w128 z) ≡ z
wide limit z most h = omega (arith, ints)

-- what they hold of such a number is below the limit, too
pub word-held : (limit : ℕ) (z : ℤ) → limit ≤ 2 ^ 63 → IsBelow limit z → IsBelow limit (to_z w64 (of_z w64 z))
word-held limit z most h = rw (word limit z most h) h

pub wide-held : (limit : ℕ) (z : ℤ) → limit ≤ 2 ^ 127 → IsBelow limit z → IsBelow limit (to_z w128 (of_z w128 z))
wide-held limit z most h = rw (wide limit z most h) h

pub fits-word : (limit : ℕ) (z : ℤ) → limit ≤ 2 ^ 63 → IsBelow limit z → SFits w64 z
fits-word limit z most h = omega (arith, ints)

pub fits-wide : (limit : ℕ) (z : ℤ) → limit ≤ 2 ^ 127 → IsBelow limit z → SFits w128 z
fits-wide limit z most h = omega (arith, ints)

pub fits-opposite : (z : ℤ) → IsBelow (2 ^ 44) z → SFits w64 (pos 0 -ℤ z)
fits-opposite z h = omega (arith, ints)

-- a number below a limit is below a greater one
pub below-more : (m n : ℕ) (z : ℤ) → m ≤ n → IsBelow m z → IsBelow n z
below-more m n z h b = record { above = omega (arith, ints); below = omega (arith, ints) }

-- the size of a number says that it is below a limit
pub below-size : (limit : ℕ) (z : ℤ) → unsigned_abs z < limit → IsBelow limit z
below-size limit (pos n) h = record { above = omega (arith, ints); below = omega (arith, ints) }
below-size limit (negsuc n) h = record { above = omega (arith, ints); below = omega (arith, ints) }

-- the product of two numbers is below the product of their limits
pub product-below : (m n : ℕ) (a b : ℤ) → IsBelow m a → IsBelow n b → IsBelow (m * n) (a *ℤ b)
product-below m n a b p q =
    below-size (m * n) (a *ℤ b) (rw (unsigned_abs-mul a b) (mul-lt (unsigned_abs a) (unsigned_abs b) m n (size-below m a p) (size-below n b q)))

-- so i128 computes it
pub product-is : (m n : ℕ) (a b : ℤ) → m ≤ 2 ^ 127 → n ≤ 2 ^ 127 → m * n ≤ 2 ^ 127 → IsBelow m a → IsBelow n b →
    to_z w128 (of_z w128 (to_z w128 (of_z w128 a) *ℤ to_z w128 (of_z w128 b))) ≡ a *ℤ b
product-is m n a b least most all p q = rw (wide m a least p, wide n b most q) (wide (m * n) (a *ℤ b) all (product-below m n a b p q))

-- and holds it
pub product-fits : (m n : ℕ) (a b : ℤ) → m ≤ 2 ^ 127 → n ≤ 2 ^ 127 → m * n ≤ 2 ^ 127 → IsBelow m a → IsBelow n b →
    SFits w128 (to_z w128 (of_z w128 a) *ℤ to_z w128 (of_z w128 b))
product-fits m n a b least most all p q = rw (wide m a least p, wide n b most q) (fits-wide (m * n) (a *ℤ b) all (product-below m n a b p q))

-- the remainder of a number by a quotient
pub left-is : (m q k : ℤ) → IsBelow (2 ^ 97) m → IsBelow (2 ^ 44) q → IsBelow (2 ^ 52) k → IsBelow (2 ^ 52) (m -ℤ q *ℤ k) →
    to_z w128 (of_z w128 (to_z w128 (of_z w128 m) -ℤ to_z w128 (of_z w128 (to_z w128 (of_z w128 q) *ℤ to_z w128 (of_z w128 k))))) ≡ m -ℤ q *ℤ k
left-is m q k below_m below_q below_k below =
    rw (product-is (2 ^ 44) (2 ^ 52) q k (omega arith) (omega arith) (omega arith) below_q below_k, wide (2 ^ 97) m (omega arith) below_m)
    (wide (2 ^ 52) (m -ℤ q *ℤ k) (omega arith) below)

-- the opposite of a quotient, which i64 takes from i128
pub opposite-is : (q : ℤ) → IsBelow (2 ^ 44) q → to_z w64 (of_z w64 (pos 0 -ℤ to_z w64 (of_z w64 (to_z w128 (of_z w128 q))))) ≡ neg_ℤ q
opposite-is q h = rw (wide (2 ^ 44) q (omega arith) h, word (2 ^ 44) q (omega arith) h) (omega (arith, ints))

-- the next column, and the remainder there
pub step-is : (a b : ℤ) → IsBelow (2 ^ 44) a → IsBelow (2 ^ 48) b →
    to_z w64 (of_z w64 (to_z w64 (of_z w64 a) +ℤ to_z w64 (of_z w64 b))) ≡ a +ℤ b
step-is a b p q = omega (arith, ints)

pub step_more-is : (a b : ℤ) → IsBelow (2 ^ 44) a → IsBelow (2 ^ 48) b →
    to_z w64 (of_z w64 (to_z w64 (of_z w64 (to_z w64 (of_z w64 a) +ℤ to_z w64 (of_z w64 b))) +ℤ pos 1)) ≡ a +ℤ b +ℤ pos 1
step_more-is a b p q = omega (arith, ints)

pub over-is : (a b : ℤ) → IsBelow (2 ^ 52) a → IsBelow (2 ^ 52) b →
    to_z w64 (of_z w64 (to_z w64 (of_z w64 a) -ℤ to_z w64 (of_z w64 b))) ≡ a -ℤ b
over-is a b p q = omega (arith, ints)

pub over_more-is : (a b c : ℤ) → IsBelow (2 ^ 52) a → IsBelow (2 ^ 52) b → IsBelow (2 ^ 52) c →
    to_z w64 (of_z w64 (to_z w64 (of_z w64 (to_z w64 (of_z w64 a) -ℤ to_z w64 (of_z w64 b))) +ℤ to_z w64 (of_z w64 c))) ≡ a -ℤ b +ℤ c
over_more-is a b c p q r = omega (arith, ints)
