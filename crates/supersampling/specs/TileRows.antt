-- A tile of a smoothed picture that is filled row by row (docs/DRAWING.md, "Smoothing").
use Rattle.std.specs.Prelude.{List, ◌≡◌, ℕ, ◌+◌, ◌*◌, ◌<◌, ◌≤◌, length, Some, slice_get}
use Rattle.mapdefs.specs.declared.rgba.Rgba.{Rgba}
use Rattle.smoothing.specs.Fine.{pixel_at, smoothed}
use Rattle.supersampling.specs.declared.tile.Tile.{Tile}
use Rattle.supersampling.specs.declared.tile_rows.FineRows.{FineRows}

-- the first rows of a tile are means of fine pixels, and what lies above the tile or left of it is as it was
pub record HasTileRows (fine : FineRows) (width : ℕ) (tile : Tile) (rows : ℕ) (old new : List Rgba) : Type 0 where
  pub area : length new ≡ length old
  pub means : (i j : ℕ) → i < tile.columns → j < rows → slice_get new ((tile.row + j) * width + (tile.column + i)) ≡ Some (smoothed fine.factor (pixel_at fine.pixels.now fine.width) i j)
  pub above : (i j : ℕ) → i < width → j < tile.row → slice_get new (j * width + i) ≡ slice_get old (j * width + i)
  pub beside : (i j : ℕ) → i < tile.column → tile.row ≤ j → j < tile.row + tile.rows → slice_get new (j * width + i) ≡ slice_get old (j * width + i)
