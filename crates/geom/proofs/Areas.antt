-- Boxes of the world that share a place.
use Rattle.std.proofs.Common.{◌≡◌, arith}
use Rattle.std.proofs.lemmas.Int.{ints, clamps}
use Rattle.std.specs.Int.{int_max, int_min}
use lib.IntN.{ℤ}
use lib.Signed.{◌≤ℤ◌}
use Rattle.geom.specs.World.{Area, Meets, Overlap}

-- the greater start lies in both ranges, if it is not past the lesser end
pub overlap-from : (a b c d most least : ℤ) → a ≤ℤ most → c ≤ℤ most → least ≤ℤ b → least ≤ℤ d → most ≤ℤ least → Overlap a b c d
overlap-from a b c d most least p q r s t = (most, p, omega (arith, ints), q, omega (arith, ints))

-- and it is not, if they share a number
pub overlap-to : (a b c d most least : ℤ) → most ≡ int_max a c → least ≡ int_min b d → Overlap a b c d → most ≤ℤ least
overlap-to a b c d most least e f o =
    let p : a ≤ℤ o.0 = o.1 in
    let q : o.0 ≤ℤ b = o.2 in
    let r : c ≤ℤ o.0 = o.3 in
    let s : o.0 ≤ℤ d = o.4 in
    omega (arith, ints, clamps)

-- boxes whose longitudes and latitudes overlap share a place
pub meets-from : (a b : Area) → Overlap a.minx a.maxx b.minx b.maxx → Overlap a.miny a.maxy b.miny b.maxy → Meets a b
meets-from a b x y = (
  record { x = x.0; y = y.0 },
  record { west = x.1; east = x.2; south = y.1; north = y.2 },
  record { west = x.3; east = x.4; south = y.3; north = y.4 },
)

-- and so do their latitudes
pub meets-down : (a b : Area) → Meets a b → Overlap a.miny a.maxy b.miny b.maxy
meets-down a b m = (m.0.y, m.1.south, m.1.north, m.2.south, m.2.north)
