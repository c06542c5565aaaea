-- The sizes of an edge's crossing and slope.
use Rattle.std.proofs.Common.{ℕ, ◌^◌, ◌≡◌, true, arith}
use Rattle.std.proofs.lemmas.Int.{ints}
use Rattle.std.specs.Int.{int_div_euclid}
use lib.IntN.{ℤ, pos, ◌-ℤ◌, ◌*ℤ◌}
use Rattle.geom.specs.Device.{centre}
use Rattle.geom.specs.Edge.{EdgeEnds, IsDeviceEdge, rise, run}
use Rattle.geom.specs.Range.{IsBelow}
use Rattle.geom.proofs.Quotients.{quotient-below}
use Rattle.clip.specs.EdgeClass.{crosses_row}
use Rattle.clip.proofs.Sides.{crosses-rise}
use Rattle.scanfill.specs.Column.{column_of, reach}
use Rattle.scanfill.specs.Walk.{AreSizes, over_of, crossing_at, slope_of}
use Rattle.scanfill.proofs.Columns.{column-below, ends-device}
use Rattle.scanfill.proofs.Quotients.{left-below}

-- rise and run are differences of device points
pub slope-below : (e : EdgeEnds) → IsDeviceEdge e → IsBelow (2 ^ 48) (rise e) × IsBelow (2 ^ 48) (run e)
slope-below e d =
    let ends = ends-device e d in (
      record { above = omega (arith, ints, ends.0.down, ends.1.down); below = omega (arith, ints, ends.0.down, ends.1.down) },
      record { above = omega (arith, ints, ends.0.across, ends.1.across); below = omega (arith, ints, ends.0.across, ends.1.across) },
    )

-- sixteen times such a difference
pub sixteen-below : (z : ℤ) → IsBelow (2 ^ 48) z → IsBelow (2 ^ 52) (pos 16 *ℤ z)
sixteen-below z h = record { above = omega (arith, ints); below = omega (arith, ints) }

pub sizes-at : (e : EdgeEnds) (j : ℕ) → IsDeviceEdge e → crosses_row e j ≡ true → AreSizes (crossing_at e j) (slope_of e)
unfolding over_of slope_of
sizes-at e j d h =
    let some = crosses-rise e (centre (pos j)) h in
    let sizes = slope-below e d in
    let whole = sixteen-below (rise e) sizes.0 in
    record {
      column = column-below e j d h;
      over = left-below (2 ^ 52) (reach e j) (pos 16 *ℤ rise e) (omega (arith, ints)) whole;
      step = quotient-below (2 ^ 48) (run e) (rise e) some sizes.1;
      whole = whole;
      rest = sixteen-below (run e -ℤ int_div_euclid (run e) (rise e) *ℤ rise e) (left-below (2 ^ 48) (run e) (rise e) some sizes.0);
    }

-- the quotient that gives the column is as small as it
pub quotient_of-below : (e : EdgeEnds) (j : ℕ) → IsDeviceEdge e → crosses_row e j ≡ true → IsBelow (2 ^ 44) (int_div_euclid (reach e j) (pos 16 *ℤ rise e))
unfolding column_of
quotient_of-below e j d h = let below = column-below e j d h in record { above = omega (arith, ints, below.below); below = omega (arith, ints, below.above) }
