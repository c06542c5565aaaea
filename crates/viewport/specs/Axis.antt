-- One axis of a view, without a division for each place (docs/DRAWING.md, "From the world to the picture").
use Rattle.std.specs.Prelude.{◌≡◌, ℕ, ◌+◌, ◌*◌, ◌/◌, ◌<◌, ◌≤◌, ◌^◌}

-- a side of so many sixteenths of a pixel, and the whole that it shows in millionths of a degree; and how many sixteenths lie before the canvas
pub record AxisValue : Type 0 where
  pub times : ℕ
  pub whole : ℕ
  pub first : ℕ

-- the factor by which one multiplies instead of dividing by the whole, before the product is cut by a limit
abbrev pub factor_of : ℕ → ℕ → ℕ → ℕ
factor_of times whole limit = times * limit / whole + 1

-- the law: a number's share of a whole, rounded down, is its product with the factor, cut by a limit above the number times the whole
abbrev pub ProductsAreQuotients : Type 0
ProductsAreQuotients =
    (number times whole limit : ℕ) → 0 < whole → number * whole < limit →
    number * factor_of times whole limit / limit ≡ number * times / whole

-- what an axis keeps: as many wholes as lift each part above 0; the sixteenths that those make, and those before the canvas; and the factor
pub record IsAxis (times whole first lifts lift back factor : ℕ) : Type 0 where
  pub some : 0 < whole
  pub times_below : times ≤ 2 ^ 17
  pub first_below : first ≤ 2 ^ 17
  pub coarse : times ≤ 2 ^ 15 * whole
  pub whole_below : whole < 2 ^ 31
  pub lift_least : 2 ^ 31 ≤ lift
  pub lift_below : lift < 2 ^ 32
  pub lift_is : lift ≡ whole * lifts
  pub back_is : back ≡ times * lifts + first
  pub back_below : back < 2 ^ 49
  pub factor_is : factor ≡ factor_of times whole (2 ^ 64)
  pub factor_below : factor < 2 ^ 82
