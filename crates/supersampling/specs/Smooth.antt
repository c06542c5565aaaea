-- The smoothed picture of a map (docs/DRAWING.md, "Smoothing").
use Rattle.std.specs.Prelude.{◌≡◌, ◌↔◌, ℕ, ◌+◌, ◌*◌, ◌<◌, ◌≤◌, List, length, Option, drop}
use Rattle.scaledenom.specs.Scale.{PictureScale}
use Rattle.labelcache.specs.declared.cache.Placed.{Placed}
use Rattle.mapdefs.specs.declared.colour.Rgb.{Rgb}
use Rattle.mapdefs.specs.declared.map.MapFields.{MapFields}
use Rattle.mapdefs.specs.declared.picture.PictureFields.{PictureFields}
use Rattle.mapdefs.specs.Alpha.{with_alphas}
use Rattle.mapdefs.specs.declared.smooth_picture.SmoothFields.{SmoothFields}
use Rattle.smoothing.specs.Fine.{pixel_at, IsSmoothed, smoothed}
use Rattle.viewport.specs.View.{ViewValue}
use Rattle.compose.specs.Labels.{ArePlaced, candidate_list}
use Rattle.compose.specs.Picture.{IsPictureOf}
use Rattle.compose.specs.Blocks.{whole_colour}

-- the view of a fine picture gives the smoothed picture: it has labels, which are placed on the fine picture; it has as many pixels as its sides say,
-- and is as many times smaller than the fine picture in both directions as the view's factor says; each pixel is the mean of as many columns and rows of that
pub record IsSmoothPictureOf (m : MapFields) (view : ViewValue) (scale : PictureScale) (chosen : List ℕ) (background : Option Rgb) (picture : SmoothFields) : Type 0 where
  pub labels : List Placed
  pub placed : ArePlaced view m.fonts (candidate_list view scale m chosen) labels
  pub width : view.factor * picture.width ≡ view.width
  pub height : view.factor * picture.height ≡ view.height
  pub area : length picture.pixels ≡ picture.width * picture.height
  pub pixels : IsSmoothed view.factor (whole_colour m view scale chosen background labels) picture

-- the law that there is one smoothed picture
abbrev pub HasOneSmoothPicture : Type 0
HasOneSmoothPicture = (m : MapFields) (view : ViewValue) (scale : PictureScale) (chosen : List ℕ) (background : Option Rgb) (a b : SmoothFields) →
    1 ≤ view.factor → IsSmoothPictureOf m view scale chosen background a → IsSmoothPictureOf m view scale chosen background b → a ≡ b

-- the law: where a map's pixel is one pixel of the picture, the smoothed picture is the picture
abbrev pub SmoothByOneIsThePicture : Type 0
SmoothByOneIsThePicture = (m : MapFields) (view : ViewValue) (scale : PictureScale) (chosen : List ℕ) (background : Option Rgb) (p : PictureFields) →
    view.factor ≡ 1 → IsPictureOf m view scale chosen background p ↔ IsSmoothPictureOf m view scale chosen background (with_alphas p)

-- the law: a pixel of a block that begins with a whole pixel, and has so many whole columns and rows, is the pixel there of the whole
abbrev pub BlocksHaveWholePixels : Type 0
BlocksHaveWholePixels =
    (n column columns row rows : ℕ) (block whole : ℕ → ℕ → Option Rgb) →
    ((i j : ℕ) → i < n * columns → j < n * rows → block i j ≡ whole (n * column + i) (n * row + j)) →
    (i j : ℕ) → i < columns → j < rows → smoothed n block i j ≡ smoothed n whole (column + i) (row + j)

-- the law: a row of the smoothed picture of some pixels is the first one of the pixels without the rows of those before it
abbrev pub RowsBeginAnywhere : Type 0
RowsBeginAnywhere = (n k i width : ℕ) (pixels : List (Option Rgb)) → smoothed n (pixel_at (drop (n * k * width) pixels) width) i 0 ≡ smoothed n (pixel_at pixels width) i k
