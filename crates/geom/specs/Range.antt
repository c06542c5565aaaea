-- Sizes of numbers: of points, pixels and boxes (docs/DRAWING.md, "From the world to the picture"), and within limits (docs/MAPFILE.md, "Numbers").
use Rattle.std.specs.Prelude.{ℕ, ℤ, pos, neg_ℤ, ◌<ℤ◌, ◌≤ℤ◌}

-- the number lies strictly between the limit's opposite and the limit
pub record IsBelow (limit : ℕ) (z : ℤ) : Type 0 where
  pub above : neg_ℤ (pos limit) <ℤ z
  pub below : z <ℤ pos limit

-- the number lies between the limit's opposite and the limit, both included
pub record IsWithin (limit : ℕ) (z : ℤ) : Type 0 where
  pub least : neg_ℤ (pos limit) ≤ℤ z
  pub most : z ≤ℤ pos limit
