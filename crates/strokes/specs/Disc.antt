-- The pixels of a disc and of a ring (docs/DRAWING.md, "When a pixel belongs to a disc").
use Rattle.std.specs.Prelude.{ℕ, ◌*◌, ◌-◌, ◌≤◌, Bool, ◌&&◌, ℤ, pos, ◌+ℤ◌, ◌-ℤ◌, int_le}
use Rattle.geom.specs.Device.{DevicePoint}
use Rattle.mapdefs.specs.declared.limits.TheConstants.{MAX_FINE_SQUARE}
use Rattle.strokes.specs.Round.{apart, is_round, square_of_half}

-- a disc: its centre, its size, and the size of its hole, which is 0 where it has none
pub record DiscValue : Type 0 where
  pub at : DevicePoint
  pub size : ℕ
  pub hole : ℕ

-- it covers the points at most half its size away from its centre that are no nearer to it than half its hole
unfoldable pub covers_disc : DiscValue → DevicePoint → Bool
covers_disc d p = is_round d.size d.at p && int_le (square_of_half d.hole) (apart d.at p)

-- the disc of a size round a point
abbrev pub disc_of : DevicePoint → ℕ → DiscValue
disc_of at size = record { at = at; size = size; hole = 0 }

-- the ring of a width in it: its hole is the width narrower on either side, and there is none where nothing is left (the difference is 0 then)
abbrev pub ring_of : DevicePoint → ℕ → ℕ → DiscValue
ring_of at size width = record { at = at; size = size; hole = size - 2 * width }

-- the sizes of a disc are within their limits
pub record IsDisc (d : DiscValue) : Type 0 where
  pub size : d.size ≤ MAX_FINE_SQUARE
  pub hole : d.hole ≤ MAX_FINE_SQUARE

-- a number is at most half a size away from another one
abbrev pub is_within_half : ℕ → ℤ → ℤ → Bool
is_within_half size a z = int_le (a -ℤ pos (8 * size)) z && int_le z (a +ℤ pos (8 * size))
