-- A smoothed picture that is made tile by tile (docs/DRAWING.md, "Smoothing").
use Rattle.std.specs.Prelude.{List, ◌≡◌, ℕ, ◌+◌, ◌*◌, ◌<◌, ◌≤◌, length, Option, Some, slice_get}
use Rattle.geom.specs.Side.{IsPictureSide}
use Rattle.mapdefs.specs.declared.colour.Rgb.{Rgb}
use Rattle.scaledenom.specs.Scale.{PictureScale}
use Rattle.labelcache.specs.declared.cache.Placed.{Placed}
use Rattle.mapdefs.specs.declared.map.MapFields.{MapFields}
use Rattle.viewport.specs.View.{ViewValue}
use Rattle.compose.specs.Labels.{ArePlaced, candidate_list}
use Rattle.compose.specs.Blocks.{whole_colour}
use Rattle.supersampling.specs.Smooth.{IsSmoothPictureOf}
use Rattle.mapdefs.specs.declared.picture.PictureFields.{PictureFields}
use Rattle.mapdefs.specs.declared.smooth_picture.SmoothFields.{SmoothFields}
use Rattle.smoothing.specs.Fine.{pixel_at, smoothed}
use Rattle.supersampling.specs.declared.tile.Tile.{Tile}

-- what a canvas has in a column and a row
abbrev pub canvas_colour : PictureFields → ℕ → ℕ → Option Rgb
canvas_colour canvas = pixel_at canvas.pixels canvas.width

-- a smoothed picture may have these sides, and has as many pixels as they say
pub record IsSmoothFields (p : SmoothFields) : Type 0 where
  pub columns : IsPictureSide p.width
  pub rows : IsPictureSide p.height
  pub area : length p.pixels ≡ p.width * p.height

-- the sides are the same
pub record HasSameSides (old new : SmoothFields) : Type 0 where
  pub width : new.width ≡ old.width
  pub height : new.height ≡ old.height
  pub area : length new.pixels ≡ length old.pixels

-- the pixels of a tile are the means of a colour of fine pixels; those above it, and those left of it, are as they were
pub record IsTileDrawn (n : ℕ) (colour : ℕ → ℕ → Option Rgb) (tile : Tile) (old new : SmoothFields) : Type 0 where
  pub sides : HasSameSides old new
  pub means : (i j : ℕ) → i < tile.columns → j < tile.rows →
      slice_get new.pixels ((tile.row + j) * old.width + (tile.column + i)) ≡ Some (smoothed n colour (tile.column + i) (tile.row + j))
  pub above : (i j : ℕ) → i < old.width → j < tile.row → slice_get new.pixels (j * old.width + i) ≡ slice_get old.pixels (j * old.width + i)
  pub beside : (i j : ℕ) → i < tile.column → tile.row ≤ j → j < tile.row + tile.rows → slice_get new.pixels (j * old.width + i) ≡ slice_get old.pixels (j * old.width + i)

-- the same with the pixels of a canvas, whose first pixel is the tile's first
pub record IsTileFilled (n : ℕ) (canvas : PictureFields) (tile : Tile) (old new : SmoothFields) : Type 0 where
  pub sides : HasSameSides old new
  pub means : (i j : ℕ) → i < tile.columns → j < tile.rows →
      slice_get new.pixels ((tile.row + j) * old.width + (tile.column + i)) ≡ Some (smoothed n (canvas_colour canvas) i j)
  pub above : (i j : ℕ) → i < old.width → j < tile.row → slice_get new.pixels (j * old.width + i) ≡ slice_get old.pixels (j * old.width + i)
  pub beside : (i j : ℕ) → i < tile.column → tile.row ≤ j → j < tile.row + tile.rows → slice_get new.pixels (j * old.width + i) ≡ slice_get old.pixels (j * old.width + i)

-- the first rows are the means of a colour of fine pixels
pub record HasRows (n : ℕ) (colour : ℕ → ℕ → Option Rgb) (rows : ℕ) (p : SmoothFields) : Type 0 where
  pub means : (i j : ℕ) → i < p.width → j < rows → slice_get p.pixels (j * p.width + i) ≡ Some (smoothed n colour i j)

-- so are the first columns of some rows
pub record HasColumns (n : ℕ) (colour : ℕ → ℕ → Option Rgb) (row rows columns : ℕ) (p : SmoothFields) : Type 0 where
  pub means : (i j : ℕ) → i < columns → row ≤ j → j < row + rows → slice_get p.pixels (j * p.width + i) ≡ Some (smoothed n colour i j)

-- a tile lies in a picture, and its fine pixels on a canvas
pub record IsTileOf (n : ℕ) (p : SmoothFields) (tile : Tile) : Type 0 where
  pub columns_some : 1 ≤ tile.columns
  pub rows_some : 1 ≤ tile.rows
  pub across : tile.column + tile.columns ≤ p.width
  pub down : tile.row + tile.rows ≤ p.height
  pub columns_most : IsPictureSide (n * tile.columns)
  pub rows_most : IsPictureSide (n * tile.rows)

-- the law: a picture of the right sides, all whose rows are means of the whole fine picture with its labels placed, is the smoothed picture
abbrev pub DrawnIsSmooth : Type 0
DrawnIsSmooth =
    (m : MapFields) (view : ViewValue) (scale : PictureScale) (chosen : List ℕ) (background : Option Rgb) (labels : List Placed) (p : SmoothFields) →
    view.factor * p.width ≡ view.width → view.factor * p.height ≡ view.height → IsSmoothFields p →
    ArePlaced view m.fonts (candidate_list view scale m chosen) labels →
    HasRows view.factor (whole_colour m view scale chosen background labels) p.height p →
    IsSmoothPictureOf m view scale chosen background p
