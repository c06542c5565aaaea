-- Degrees of the equator in metres: 180 degrees are 20,037,508.342789244 m (docs/WMS.md, "Axis order").
use Rattle.std.specs.Prelude.{◌≡◌, ℤ, pos, neg_ℤ, ◌+ℤ◌, ◌-ℤ◌, ◌*ℤ◌, ◌<ℤ◌, ◌≤ℤ◌, Some}
use Rattle.std.specs.Int.{int_div_euclid}
use Rattle.geom.specs.World.{IsCoordinate}
use Rattle.geom.specs.Written.{written}
use Rattle.crsaxes.specs.Axes.{axis_of}
use Rattle.crsaxes.specs.declared.crs.Crs.TheVariants.{Epsg3857}

-- the metres are the degrees, or less by less than a millionth of a metre; both numbers are in millionths
pub record IsRoundedDown (degrees metres : ℤ) : Type 0 where
  pub most : (metres *ℤ pos 45000000000) ≤ℤ (degrees *ℤ pos 5009377085697311)
  pub next : (degrees *ℤ pos 5009377085697311) <ℤ ((metres +ℤ pos 1) *ℤ pos 45000000000)

-- the metres are the degrees, or more by less than a millionth of a metre
pub record IsRoundedUp (degrees metres : ℤ) : Type 0 where
  pub least : (degrees *ℤ pos 5009377085697311) ≤ℤ (metres *ℤ pos 45000000000)
  pub before : ((metres -ℤ pos 1) *ℤ pos 45000000000) <ℤ (degrees *ℤ pos 5009377085697311)

-- millionths of a degree of the equator in millionths of a metre, rounded down
unfoldable pub metres_down : ℤ → ℤ
metres_down degrees = int_div_euclid (degrees *ℤ pos 5009377085697311) (pos 45000000000)

-- and rounded up
abbrev pub metres_up : ℤ → ℤ
metres_up degrees = neg_ℤ (metres_down (neg_ℤ degrees))

-- the law that they are rounded so
pub record AreRounded (degrees : ℤ) : Type 0 where
  pub down : IsRoundedDown degrees (metres_down degrees)
  pub up : IsRoundedUp degrees (metres_up degrees)

abbrev pub MetresAreRounded : Type 0
MetresAreRounded = (degrees : ℤ) → AreRounded degrees

-- the law that the metres of a coordinate, written out, are read as the coordinate in web mercator, whichever way they are rounded
pub record AreRead (degrees : ℤ) : Type 0 where
  pub down : axis_of Epsg3857 (written (metres_down degrees)) ≡ Some degrees
  pub up : axis_of Epsg3857 (written (metres_up degrees)) ≡ Some degrees

abbrev pub MetresAreRead : Type 0
MetresAreRead = (degrees : ℤ) → IsCoordinate degrees → AreRead degrees
