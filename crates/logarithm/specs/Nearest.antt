-- Each listed ordinate is the nearest to the logarithm of web mercator (docs/DRAWING.md, "Web mercator"). The ordinate of a
-- latitude is ln(tan(45 degrees + latitude / 2)) in radians of the equator, so its exponential is a tangent.
use Rattle.std.specs.Prelude.{ℕ, zero, suc, ◌+◌, ◌-◌, ◌*◌, ◌/◌, ◌^◌, ◌≤◌, ◌<◌}
use Rattle.mercator.specs.Ordinate.{rise}

-- numbers are counted in parts of 10 ^ 30
abbrev pub one : ℕ
one = 10 ^ 30

-- a real number lies between two, in these parts
pub record Between : Type 0 where
  pub low : ℕ
  pub high : ℕ

-- a number that is exact
abbrev pub exact : ℕ → Between
exact n = record { low = n; high = n }

-- a quotient, rounded up
abbrev pub quotient_up : ℕ → ℕ → ℕ
quotient_up a b = (a + b - 1) / b

-- the unit of listed ordinates, a sixteenth of a millionth of a degree: pi / 2,880,000,000
abbrev pub unit : Between
unit = record { low = 1090830782496455985577; high = 1090830782496455985578 }

-- the tangent of half a step of the list, of 4,096 millionths of a degree
abbrev pub step_tangent : Between
step_tangent = record { low = 71488686283471868034900697; high = 71488686283471868034900698 }

-- the tangent of an angle and that of half a step give the tangent of both: (t + s) / (1 - t * s)
abbrev pub next_tangent : Between → Between
next_tangent t = record {
  low = (t.low + step_tangent.low) * one ^ 2 / (one ^ 2 - t.low * step_tangent.low);
  high = quotient_up ((t.high + step_tangent.high) * one ^ 2) (one ^ 2 - t.high * step_tangent.high);
}

-- the tangent of 45 degrees and so many halves of steps
unfoldable pub tangent : ℕ → Between
tangent zero = exact one
tangent (suc k) = next_tangent (tangent k)

-- the first six terms of an exponential, 1 + r + r ^ 2 / 2 + .. + r ^ 5 / 120, each rounded down
abbrev pub six_terms : ℕ → ℕ
six_terms r = one + r + r ^ 2 / (2 * one) + r ^ 3 / (6 * one ^ 2) + r ^ 4 / (24 * one ^ 3) + r ^ 5 / (120 * one ^ 4)

-- it is the exponential, or less. All further terms of a number below a tenth are less than r ^ 6 / 700, and of each of these five
-- quotients rounding takes less than one
abbrev pub exponential_of : Between → Between
exponential_of r = record { low = six_terms r.low; high = six_terms r.high + r.high ^ 6 / (700 * one ^ 5) + 5 }

-- a product
abbrev pub product : Between → Between → Between
product a b = record { low = a.low * b.low / one; high = quotient_up (a.high * b.high) one }

-- so many units
abbrev pub units : ℕ → Between
units n = record { low = n * unit.low; high = n * unit.high }

-- the exponential of the ordinate of so many steps, by what each listed ordinate is above the one before
unfoldable pub exponential : ℕ → Between
exponential zero = exact one
exponential (suc k) = product (exponential k) (exponential_of (units (rise k)))

-- two numbers whose logarithms differ by half a unit at most: neither is more than 1 + unit / 2 times the other
pub record AreNear (a b : Between) : Type 0 where
  pub above : a.high * one ≤ b.low * (one + unit.low / 2)
  pub below : b.high * one ≤ a.low * (one + unit.low / 2)

-- the law: each listed ordinate differs from the logarithm by half a unit at most
abbrev pub NumbersAreNearest : Type 0
NumbersAreNearest = (k : ℕ) → k < 10387 → AreNear (tangent k) (exponential k)
