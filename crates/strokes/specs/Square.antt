-- The square of a size round a pixel (docs/DRAWING.md, "When a pixel belongs to a line").
use Rattle.std.specs.Prelude.{ℕ, ◌≤◌, ◌-◌, ◌/◌, Bool, ◌&&◌, ℤ, pos, ◌+ℤ◌, ◌-ℤ◌, int_le}
use Rattle.geom.specs.Device.{PixelValue}
use Rattle.mapdefs.specs.declared.limits.TheConstants.{MAX_FINE_SQUARE}

-- a square: its pixel, and its size
pub record SquareValue : Type 0 where
  pub pixel : PixelValue
  pub size : ℕ

-- a column or row lies from floor((size - 1) / 2) before another to floor(size / 2) after it, both included
abbrev pub is_beside : ℕ → ℤ → ℤ → Bool
is_beside size at z = int_le (at -ℤ pos ((size - 1) / 2)) z && int_le z (at +ℤ pos (size / 2))

-- the square covers the pixel in a column and a row
unfoldable pub covers_square : SquareValue → ℤ → ℤ → Bool
covers_square s i j = is_beside s.size s.pixel.i i && is_beside s.size s.pixel.j j

-- the size of a square is within its limits
pub record IsSquare (s : SquareValue) : Type 0 where
  pub some : 1 ≤ s.size
  pub most : s.size ≤ MAX_FINE_SQUARE
