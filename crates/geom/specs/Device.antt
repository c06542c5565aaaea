-- Points and pixels of the picture (docs/DRAWING.md, "From the world to the picture").
use Rattle.std.specs.Prelude.{◌^◌, ℤ, pos, ◌+ℤ◌, ◌*ℤ◌}
use Rattle.std.specs.Int.{int_div_euclid}
use Rattle.geom.specs.Range.{IsBelow}

-- a point of the picture, in sixteenths of a pixel from the upper left corner, right and down
pub record DevicePoint : Type 0 where
  pub x : ℤ
  pub y : ℤ

-- a pixel: its column and its row, both counted from the upper left corner and below 0 outside
pub record PixelValue : Type 0 where
  pub i : ℤ
  pub j : ℤ

-- both numbers have the sizes of those of device points
pub record IsDevicePoint (p : DevicePoint) : Type 0 where
  pub across : IsBelow (2 ^ 47) p.x
  pub down : IsBelow (2 ^ 47) p.y

-- column and row have the sizes of pixels
pub record IsPixel (p : PixelValue) : Type 0 where
  pub column : IsBelow (2 ^ 44) p.i
  pub row : IsBelow (2 ^ 44) p.j

-- the pixel that a device point lies in: a sixteenth of both numbers, rounded down
abbrev pub pixel_of : DevicePoint → PixelValue
pixel_of p = record { i = int_div_euclid p.x (pos 16); j = int_div_euclid p.y (pos 16) }

-- the x of the pixel centres of a column, and the y of those of a row
abbrev pub centre : ℤ → ℤ
centre k = pos 16 *ℤ k +ℤ pos 8

-- the pixel centre in a column and a row
abbrev pub pixel_centre : ℤ → ℤ → DevicePoint
pixel_centre i j = record { x = centre i; y = centre j }
