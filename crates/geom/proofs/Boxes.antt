-- Ranges of positions and boxes that share some.
use Rattle.std.proofs.Common.{◌≡◌, ℕ, ◌^◌, ◌<◌, arith}
use Rattle.std.proofs.lemmas.Int.{ints, clamps}
use Rattle.std.specs.Int.{int_max, int_min}
use lib.IntN.{ℤ, pos, ◌-ℤ◌, ◌+ℤ◌}
use lib.Signed.{◌<ℤ◌, ◌≤ℤ◌}
use mir.Syntax.{w64}
use mir.Val.{to_z, of_z}
use Rattle.geom.specs.Range.{IsBelow}
use Rattle.geom.specs.PxBox.{PixelBoxValue, Overlap, Meets}

-- the greater start lies in both ranges, if it is before the lesser end
pub overlap-from : (a b c d most least : ℤ) → a ≤ℤ most → c ≤ℤ most → least ≤ℤ b → least ≤ℤ d → most <ℤ least → Overlap a b c d
overlap-from a b c d most least p q r s t = (most, p, omega (arith, ints), q, omega (arith, ints))

-- and it is, if they share a position
pub overlap-to : (a b c d most least : ℤ) → most ≡ int_max a c → least ≡ int_min b d → Overlap a b c d → most <ℤ least
overlap-to a b c d most least e f o =
    let p : a ≤ℤ o.0 = o.1 in
    let q : o.0 <ℤ b = o.2 in
    let r : c ≤ℤ o.0 = o.3 in
    let s : o.0 <ℤ d = o.4 in
    omega (arith, ints, clamps)

-- boxes whose columns and rows overlap share a pixel
pub meets-from : (a b : PixelBoxValue) → Overlap a.left a.right b.left b.right → Overlap a.top a.bottom b.top b.bottom → Meets a b
meets-from a b x y = (
  x.0,
  y.0,
  record { left = x.1; right = x.2; top = y.1; bottom = y.2 },
  record { left = x.3; right = x.4; top = y.3; bottom = y.4 },
)

-- the columns of boxes that share a pixel overlap
pub meets-across : (a b : PixelBoxValue) → Meets a b → Overlap a.left a.right b.left b.right
meets-across a b m = (m.0, m.2.left, m.2.right, m.3.left, m.3.right)

-- and so do their rows
pub meets-down : (a b : PixelBoxValue) → Meets a b → Overlap a.top a.bottom b.top b.bottom
meets-down a b m = (m.1, m.2.top, m.2.bottom, m.3.top, m.3.bottom)

-- what i64 holds of a position that moves by less than 2 ^ 32
pub moved-down : (z m : ℤ) (n : ℕ) → IsBelow (2 ^ 40) z → m ≡ pos n → n < 2 ^ 32 → to_z w64 (of_z w64 (to_z w64 (of_z w64 z) -ℤ to_z w64 (of_z w64 m))) ≡ z -ℤ pos n
moved-down z m n h e f = rw e (omega (arith, ints))

pub moved-up : (z m : ℤ) (n : ℕ) → IsBelow (2 ^ 40) z → m ≡ pos n → n < 2 ^ 32 → to_z w64 (of_z w64 (to_z w64 (of_z w64 z) +ℤ to_z w64 (of_z w64 m))) ≡ z +ℤ pos n
moved-up z m n h e f = rw e (omega (arith, ints))
