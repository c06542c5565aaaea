-- Short segments of a line, which its squares cover (docs/DRAWING.md, "When a pixel belongs to a line").
use Rattle.std.specs.Prelude.{◌≡◌, ℕ, ◌%◌, Bool, true, ◌&&◌, ◌||◌, ℤ, pos, ◌+ℤ◌, ◌-ℤ◌, int_le}
use Rattle.geom.specs.Device.{DevicePoint, PixelValue, pixel_centre, pixel_of}
use Rattle.strokes.specs.Line.{square_at}
use Rattle.strokes.specs.Segment.{covers_segment}
use Rattle.strokes.specs.Square.{covers_square}

-- two columns, or two rows, are at most so many apart
abbrev pub are_close : ℕ → ℤ → ℤ → Bool
are_close n a b = int_le (a -ℤ pos n) b && int_le b (a +ℤ pos n)

-- two numbers are the same, and two others are at most so many apart
abbrev pub are_abreast : ℕ → ℤ → ℤ → ℤ → ℤ → Bool
are_abreast n a b c d = are_close 0 a b && are_close n c d

-- two pixels lie in one column or in one row, and are at most so many apart
abbrev pub are_neighbours : ℕ → PixelValue → PixelValue → Bool
are_neighbours n p q = are_abreast n p.i q.i p.j q.j || are_abreast n p.j q.j p.i q.i

-- the law: a segment of an odd width between points of such pixels, at most the width apart, covers nothing but what the squares round its ends cover
abbrev pub ShortSegmentsAddNothing : Type 0
ShortSegmentsAddNothing =
    (w : ℕ) (a b : DevicePoint) (i j : ℤ) → w % 2 ≡ 1 → are_neighbours w (pixel_of a) (pixel_of b) ≡ true →
    covers_segment w (record { from = a; to = b }) (pixel_centre i j) ≡ true →
    (covers_square (square_at w a) i j || covers_square (square_at w b) i j) ≡ true
