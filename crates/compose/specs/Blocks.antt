-- Pictures by blocks: each block has what the whole picture has there (docs/DRAWING.md, "Pictures by blocks").
use Rattle.std.specs.Prelude.{◌≡◌, ℕ, ◌+◌, ◌*◌, ◌<◌, pos, List, map, ◌++◌, length, replicate, Option, Some, slice_get}
use Rattle.geom.specs.Device.{PixelValue}
use Rattle.scaledenom.specs.Scale.{PictureScale}
use Rattle.labelcache.specs.Candidate.{CandidateValue}
use Rattle.labelcache.specs.declared.cache.Placed.{Placed}
use Rattle.mapdefs.specs.declared.colour.Rgb.{Rgb}
use Rattle.mapdefs.specs.declared.map.MapFields.{MapFields}
use Rattle.mapdefs.specs.declared.picture.PictureFields.{PictureFields}
use Rattle.moves.specs.Moves.{disc_from, line_from, pixel_from, points_from, segment_from, square_from, stamp_from}
use Rattle.viewport.specs.View.{ViewValue, block_of, whole_of}
use Rattle.viewport.specs.declared.fine.Stretch.{Stretch}
use Rattle.canvas.specs.Painted.{IsPainted, colour_at}
use Rattle.canvas.specs.Shapes.{PaintedShape, colour_in, covers}
use Rattle.canvas.specs.Shapes as shape
use Rattle.compose.specs.Labels.{candidate_list, ink_list}
use Rattle.compose.specs.Paint.{paint_list}

-- a shape as it lies from a pixel
abbrev pub shape_from : PixelValue → PaintedShape → PaintedShape
shape_from corner (shape.Fill rings colour) = shape.Fill (points_from corner rings) colour
shape_from corner (shape.Stroke line colour) = shape.Stroke (line_from corner line) colour
shape_from corner (shape.RoundStroke segments colour) = shape.RoundStroke (map (segment_from corner) segments) colour
shape_from corner (shape.Mark square colour) = shape.Mark (square_from corner square) colour
shape_from corner (shape.Disc disc colour) = shape.Disc (disc_from corner disc) colour
shape_from corner (shape.Stamped pixmap) = shape.Stamped (stamp_from corner pixmap)
shape_from corner (shape.Outlined w reach colour) = shape.Outlined (record w { at = pixel_from corner w.at }) reach colour
shape_from corner (shape.Inked w colour) = shape.Inked (record w { at = pixel_from corner w.at }) colour

-- the law: it covers, as many columns and rows behind that pixel, what the shape covers, and gives it the same colours
abbrev pub ShapesMove : Type 0
ShapesMove = (left top : ℕ) (s : PaintedShape) (i j : ℕ) →
    (covers (shape_from (record { i = pos left; j = pos top }) s) i j ≡ covers s (left + i) (top + j))
    × (colour_in (shape_from (record { i = pos left; j = pos top }) s) i j ≡ colour_in s (left + i) (top + j))

-- the pixel of the whole picture that is a block's first
abbrev pub corner_of : ViewValue → PixelValue
corner_of block = record { i = pos block.left; j = pos block.top }

-- a label that is placed on the whole picture, as it lies from the block's first pixel
abbrev pub label_from : PixelValue → Placed → Placed
label_from corner label = record label { at = pixel_from corner label.at }

-- the law: what is painted of the features on a block is what is painted of them on the whole picture, from the block's first pixel
abbrev pub BlocksPaintTheSame : Type 0
BlocksPaintTheSame = (view : ViewValue) (across down : Stretch) (scale : PictureScale) (m : MapFields) (chosen : List ℕ) →
    paint_list (block_of view across down) scale m chosen ≡ map (shape_from (corner_of (block_of view across down))) (paint_list (whole_of view) scale m chosen)

-- what a pixel of the whole picture of a view has: the colour of the last shape that covers it, among what is painted of features and then of the labels
abbrev pub whole_colour : MapFields → ViewValue → PictureScale → List ℕ → Option Rgb → List Placed → ℕ → ℕ → Option Rgb
whole_colour m view scale chosen background labels = colour_at background (paint_list view scale m chosen ++ ink_list m.fonts (candidate_list view scale m chosen) labels)

-- the law: on a block of a picture each pixel has the colour that it has on the whole
abbrev pub BlocksPaintParts : Type 0
BlocksPaintParts =
    (view : ViewValue) (across down : Stretch) (scale : PictureScale) (m : MapFields) (chosen : List ℕ) (background : Option Rgb) (i j : ℕ) →
    colour_at background (paint_list (block_of view across down) scale m chosen) i j
    ≡ colour_at background (paint_list (whole_of view) scale m chosen) (across.first + i) (down.first + j)

-- so it has with labels that are placed on the whole picture, and painted on the block where they lie from its first pixel
abbrev pub BlocksAreParts : Type 0
BlocksAreParts =
    (view : ViewValue) (across down : Stretch) (scale : PictureScale) (m : MapFields) (chosen : List ℕ) (candidates : List CandidateValue) (labels : List Placed)
    (background : Option Rgb) (i j : ℕ) →
    colour_at background (paint_list (block_of view across down) scale m chosen
    ++ ink_list m.fonts candidates (map (label_from (corner_of (block_of view across down))) labels)) i j
    ≡ colour_at background (paint_list (whole_of view) scale m chosen ++ ink_list m.fonts candidates labels) (across.first + i) (down.first + j)

-- a picture has the colours of a larger one from a column and a row on
pub record IsBlockOf (colour : ℕ → ℕ → Option Rgb) (across down : Stretch) (block : PictureFields) : Type 0 where
  pub width : block.width ≡ across.count
  pub height : block.height ≡ down.count
  pub area : length block.pixels ≡ block.width * block.height
  pub pixels : (i j : ℕ) → i < block.width → j < block.height → slice_get block.pixels (j * block.width + i) ≡ Some (colour (across.first + i) (down.first + j))

-- the law: the background that is painted over with what a block has is the block of the whole picture
abbrev pub PaintedBlocksAreBlocks : Type 0
PaintedBlocksAreBlocks =
    (view : ViewValue) (across down : Stretch) (scale : PictureScale) (m : MapFields) (chosen : List ℕ) (labels : List Placed) (background : Option Rgb) (blank block : PictureFields) →
    blank ≡ record { width = across.count; height = down.count; pixels = replicate (across.count * down.count) background } →
    IsPainted blank block (paint_list (block_of view across down) scale m chosen
    ++ ink_list m.fonts (candidate_list (whole_of view) scale m chosen) (map (label_from (corner_of (block_of view across down))) labels)) →
    IsBlockOf (whole_colour m (whole_of view) scale chosen background labels) across down block
