-- The rows of latitudes, and bands of latitudes of one row (docs/developers/WALKS.md, "The way of one polygon").
use Rattle.std.specs.Prelude.{◌≡◌, ℕ, ◌<◌, ℤ, ◌≤ℤ◌, List, length, slice_index_or}
use Rattle.clip.specs.EdgeClass.{first_row}
use Rattle.viewport.specs.View.{ViewValue, down_of}
use Rattle.canvas.specs.declared.latitudes.Band.{Band}

-- the first of a canvas' rows whose pixel centres lie at a latitude or below it, or their number
abbrev pub row_of : ViewValue → ℤ → ℕ
row_of view latitude = first_row (down_of view latitude) view.height

-- the bands of the rows of a view's canvas
pub record BandsValue : Type 0 where
  pub view : ViewValue
  pub bands : List Band

-- where anything lies between the two latitudes of a band, they are of a row
pub record IsBand (view : ViewValue) (row : ℕ) (band : Band) : Type 0 where
  pub low : band.south ≤ℤ band.north → row_of view band.south ≡ row
  pub high : band.south ≤ℤ band.north → row_of view band.north ≡ row

-- each band is of the row of its index
abbrev pub AreBands : ViewValue → List Band → Type 0
AreBands view bands = (k : ℕ) (d : Band) → k < length bands → IsBand view k (slice_index_or bands k d)
