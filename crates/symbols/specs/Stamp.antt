-- The pixels of a pixmap that is stamped on the picture (docs/DRAWING.md, "When a pixel belongs to a symbol").
use Rattle.std.specs.Prelude.{ℕ, ◌+◌, ◌-◌, ◌*◌, ◌/◌, ◌==◌, ◌&&◌, not, Bool, false, if◌then◌else◌, nat_le, ℤ, pos, ◌-ℤ◌, int_le, int_lt, List, Option, None, Some, slice_get}
use Rattle.std.specs.Option.{option_and_then}
use Rattle.clip.specs.EdgeClass.{at_least_zero}
use Rattle.geom.specs.Device.{PixelValue}
use Rattle.mapdefs.specs.declared.colour.Rgb.{Rgb}
use Rattle.mapdefs.specs.declared.symbol.PixmapFields.{PixmapFields}

-- a stamp: a pixmap, and the pixel that it is stamped at
pub record StampValue : Type 0 where
  pub pixmap : PixmapFields
  pub pixel : PixelValue

-- where a column or row of the picture lies on a side of a pixmap that is stamped round another, if it does
abbrev pub position_on : ℕ → ℤ → ℤ → Option ℕ
position_on side at index =
    let apart = index -ℤ (at -ℤ pos (side / 2)) in
    if int_le (pos 0) apart && int_lt apart (pos side) then Some (at_least_zero apart) else None

-- the pixmap's pixel that falls into a column and a row of the picture, if one does
abbrev pub pixel_at : StampValue → ℤ → ℤ → Option Rgb
pixel_at s i j =
    option_and_then (λ column. option_and_then (λ row. slice_get s.pixmap.pixels (row * s.pixmap.width + column)) (position_on s.pixmap.height s.pixel.j j))
    (position_on s.pixmap.width s.pixel.i i)

-- how many columns, or rows, of a pixmap's side lie before the first one of the picture
abbrev pub skipped : ℕ → ℤ → ℕ
skipped side at = at_least_zero (pos (side / 2) -ℤ at)

-- what some colours of a row, from a column on, have in a column, if they have one there
abbrev pub pixel_from : ℕ → List Rgb → ℕ → Option Rgb
pixel_from from colours i = if nat_le from i then slice_get colours (i - from) else None

-- 255 0 255 means no colour
abbrev pub is_transparent : Rgb → Bool
is_transparent colour = colour.red == 255 && colour.green == 0 && colour.blue == 255

-- there is a pixel of the pixmap, and it has a colour
abbrev pub is_coloured : Option Rgb → Bool
is_coloured None = false
is_coloured (Some colour) = not (is_transparent colour)

-- a stamp covers the pixels of the picture into which a coloured one of its pixmap falls
unfoldable pub covers_pixel : StampValue → ℤ → ℤ → Bool
covers_pixel s i j = is_coloured (pixel_at s i j)
