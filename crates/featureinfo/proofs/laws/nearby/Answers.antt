use Rattle.std.proofs.Common.{ℕ, ◌+◌, ◌<◌, ◌≤◌, min, arith}
use Rattle.std.proofs.Math.Nat.{le-min, min-le_left, min-le_right}
use Rattle.featureinfo.proofs.laws.nearby.Goals as goal

-- a number below two is below the lesser
below-min : (n a b : ℕ) → n + 1 ≤ a → n + 1 ≤ b → n < min a b
below-min n a b p q = let least : n + 1 ≤ min a b = le-min {k = n + 1} {a = a} {b = b} p q in omega (arith, least)

pub returns : goal.returns
returns c = λ width height tolerance i j column row in_width in_height. (
  λ near. (
    omega (arith, near, min-le_right (i + tolerance + 1) width),
    omega (arith, near, min-le_right (j + tolerance + 1) height),
    omega (arith, near, min-le_left (i + tolerance + 1) width),
    omega (arith, near, min-le_left (j + tolerance + 1) height),
  ),
  λ within. (
    omega (arith, within),
    below-min column (i + tolerance + 1) width (omega (arith, within)) (omega (arith, within)),
    omega (arith, within),
    below-min row (j + tolerance + 1) height (omega (arith, within)) (omega (arith, within)),
  ),
)
