-- What a line covers, from vertex to vertex (docs/DRAWING.md, "When a pixel belongs to a line").
use Rattle.std.specs.Prelude.{◌≡◌, ℕ, ◌*◌, ◌<◌, ◌≤◌, length, Bool, true, false, ◌&&◌, ◌||◌, pos, int_le, List, [], ◌∷◌, map, Some}
use Rattle.std.specs.List.{list_any}
use Rattle.geom.specs.Device.{DevicePoint, pixel_centre}
use Rattle.geom.specs.EvenOdd.{edge_between}
use Rattle.geom.specs.World.{Area, Place}
use Rattle.mapdefs.specs.declared.colour.Rgb.{Rgb}
use Rattle.mapdefs.specs.declared.limits.TheConstants.{MAX_FINE_WIDTH}
use Rattle.mapdefs.specs.declared.picture.PictureFields.{PictureFields}
use Rattle.strokes.specs.Line.{covers_centre, segments_of, square_at}
use Rattle.strokes.specs.Segment.{covers_segment}
use Rattle.strokes.specs.Square.{covers_square}
use Rattle.viewport.specs.View.{IsView, ViewValue, device_point, window}
use Rattle.canvas.specs.Painted.{IsFilled}
use Rattle.inking.specs.declared.trail.Tip.{Tip}
use Rattle.inking.specs.declared.trail.Trail.{Trail}

-- whether the pixel of a column and a row is covered
abbrev pub PixelTest : Type 0
PixelTest = ℕ → ℕ → Bool

-- the line of a width along one part covers a pixel: one of the part's segments does, or a square round one of its vertices
abbrev pub part_covers : Bool → ℕ → List DevicePoint → PixelTest
part_covers closed w part i j =
    list_any (covers_centre (pos i) (pos j)) (segments_of closed w part) || list_any (λ s. covers_square s (pos i) (pos j)) (map (square_at w) part)

-- the square round a vertex covers a pixel
abbrev pub vertex_covers : ℕ → DevicePoint → PixelTest
vertex_covers w a i j = covers_square (square_at w a) (pos i) (pos j)

-- the segment from one vertex to another covers a pixel
abbrev pub segment_covers : ℕ → DevicePoint → DevicePoint → PixelTest
segment_covers w a b i j = covers_segment w (edge_between (a, b)) (pixel_centre (pos i) (pos j))

-- a step covers a pixel: the segment from one vertex to the next does, or the square round that one
abbrev pub step_covers : ℕ → DevicePoint → DevicePoint → PixelTest
step_covers w a b i j = segment_covers w a b i j || vertex_covers w b i j

-- one of the remaining steps from a vertex does: those over the vertices that follow, and in a closed line the one back to the first
abbrev pub rest_covers : Bool → ℕ → DevicePoint → DevicePoint → List DevicePoint → PixelTest
rest_covers closed w first from [] i j = closed && step_covers w from first i j
rest_covers closed w first from (to ∷ rest) i j = step_covers w from to i j || rest_covers closed w first to rest i j

-- the pen of a line: the view that its places lie in, its width and its colour
pub record PenValue : Type 0 where
  pub view : ViewValue
  pub width : ℕ
  pub colour : Rgb

-- a pen's width is within its limits, and its window contains what its width reaches
pub record IsPen (pen : PenValue) (window_of_pen : Area) : Type 0 where
  pub some : 1 ≤ pen.width
  pub most : pen.width ≤ MAX_FINE_WIDTH
  pub limits : IsView pen.view
  pub window_is : window_of_pen ≡ window pen.view pen.width

-- the place lies in the box, or on its border
abbrev pub has_place : Area → Place → Bool
has_place box place = (int_le box.minx place.x && int_le place.x box.maxx) && (int_le box.miny place.y && int_le place.y box.maxy)

-- a step of a pen between two places covers a pixel
abbrev pub pen_covers : PenValue → Place → Place → PixelTest
pen_covers pen a b i j = step_covers pen.width (device_point pen.view a) (device_point pen.view b) i j

-- one of the steps from a place over those that follow covers a pixel
abbrev pub chain_covers : PenValue → Place → List Place → PixelTest
chain_covers pen from rest i j = rest_covers false pen.width (device_point pen.view from) (device_point pen.view from) (map (device_point pen.view) rest) i j

-- a box lies in another one
abbrev pub has_box : Area → Area → Bool
has_box big small = (int_le big.minx small.minx && int_le small.maxx big.maxx) && (int_le big.miny small.miny && int_le small.maxy big.maxy)

-- a picture has the sides of a pen's view
pub record IsOf (pen : PenValue) (canvas : PictureFields) : Type 0 where
  pub columns : canvas.width ≡ pen.view.width
  pub rows : canvas.height ≡ pen.view.height

-- all pixels that a test passes have the colour of a pen already
abbrev pub HasAlready : PenValue → PictureFields → (ℕ → ℕ → Bool) → Type 0
HasAlready pen canvas test = IsFilled test (λ i j. Some pen.colour) canvas canvas

-- a box of the world is quiet beside a place: a step between two of its places covers no pixel of the picture that the step from that place to itself doesn't
abbrev pub IsQuiet : PenValue → Place → Area → Type 0
IsQuiet pen place box =
    (a b : Place) → has_place box a ≡ true → has_place box b ≡ true →
    (i j : ℕ) → i < pen.view.width → j < pen.view.height → pen_covers pen a b i j ≡ true → pen_covers pen place place i j ≡ true

-- the last vertex of a trail lies in its box, and a step within the box needs no painting
pub record IsTrail (pen : PenValue) (canvas : PictureFields) (trail : Trail) : Type 0 where
  pub on : has_place trail.quiet trail.from ≡ true
  pub quiet : (a b : Place) → has_place trail.quiet a ≡ true → has_place trail.quiet b ≡ true → HasAlready pen canvas (pen_covers pen a b)

-- the last vertex of a tip lies at its point, and the square round that already has the pen's colour
pub record IsTip (pen : PenValue) (canvas : PictureFields) (tip : Tip) : Type 0 where
  pub at : tip.at ≡ device_point pen.view tip.from
  pub area : length canvas.pixels ≡ canvas.width * canvas.height
  pub already : HasAlready pen canvas (vertex_covers pen.width tip.at)
