-- Which fine pixels a pixel of the smoothed picture is the mean of (docs/DRAWING.md, "Smoothing").
use Rattle.std.specs.Prelude.{◌≡◌, ℕ, ◌+◌, ◌*◌, ◌<◌, List, map, Option, None, Some, slice_get, slice_index_or}
use Rattle.std.specs.List.{flat_map, range_with_len}
use Rattle.mapdefs.specs.declared.colour.Rgb.{Rgb}
use Rattle.mapdefs.specs.declared.rgba.Rgba.{Rgba}
use Rattle.mapdefs.specs.declared.smooth_picture.SmoothFields.{SmoothFields}
use Rattle.smoothing.specs.Mean.{mean_of}

-- the pixels of so many columns from one on, in so many rows from one on, row by row
abbrev pub pixels_in : (ℕ → ℕ → Option Rgb) → ℕ → ℕ → ℕ → ℕ → List (Option Rgb)
pixels_in fine column columns row rows = flat_map (λ j. map (λ i. fine i j) (range_with_len column columns)) (range_with_len row rows)

-- the pixel in a column and a row of the smoothed picture of factor n: the mean of n columns and n rows of the fine picture
unfoldable pub smoothed : ℕ → (ℕ → ℕ → Option Rgb) → ℕ → ℕ → Rgba
smoothed n fine i j = mean_of (pixels_in fine (n * i) n (n * j) n)

-- the picture is the smoothed picture of factor n
pub record IsSmoothed (n : ℕ) (fine : ℕ → ℕ → Option Rgb) (picture : SmoothFields) : Type 0 where
  pub pixels : (i j : ℕ) → i < picture.width → j < picture.height → slice_get picture.pixels (j * picture.width + i) ≡ Some (smoothed n fine i j)

-- what pixels that stand row by row have in a column and a row, where a row has so many
abbrev pub pixel_at : List (Option Rgb) → ℕ → ℕ → ℕ → Option Rgb
pixel_at pixels width i j = slice_index_or pixels (j * width + i) None
