-- From the world to the picture (docs/DRAWING.md, "From the world to the picture").
use Rattle.std.specs.Prelude.{◌≡◌, ℕ, ◌+◌, ◌*◌, ◌≤◌, ◌&&◌, ◌==◌, int_le, nat_le, if◌then◌else◌, Option, None, Some, List, map, ℤ, pos, neg_ℤ, ◌+ℤ◌, ◌-ℤ◌, ◌*ℤ◌, ◌<ℤ◌, ◌≤ℤ◌, unsigned_abs}
use Rattle.std.specs.Int.{div_ceil, int_div_euclid}
use Rattle.geom.specs.Device.{DevicePoint, PixelValue, pixel_of}
use Rattle.geom.specs.Factor.{IsFactor}
use Rattle.geom.specs.declared.side.TheConstants.{MAX_PICTURE_SIDE}
use Rattle.geom.specs.World.{Place, Area, HasPlace, IsExtent}
use Rattle.mercator.specs.Bound.{northern_bound, southern_bound}
use Rattle.mercator.specs.Ordinate.{ordinate}
use Rattle.viewport.specs.declared.heights.Heights.{Heights}
use Rattle.viewport.specs.declared.heights.Heights.TheVariants as heights
use Rattle.viewport.specs.declared.fine.Stretch.{Stretch}

-- how far north a latitude lies on the picture's scale: as it is, or as its ordinate in web mercator
unfoldable pub height_of : Heights → ℤ → ℤ
height_of heights.Latitudes latitude = latitude
height_of heights.Mercator latitude = ordinate latitude

-- a latitude south of all that lie so far north or further, and one north of all that lie no further
unfoldable pub south_of : Heights → ℤ → ℤ
south_of heights.Latitudes height = height
south_of heights.Mercator height = southern_bound height

unfoldable pub north_of : Heights → ℤ → ℤ
north_of heights.Latitudes height = height
north_of heights.Mercator height = northern_bound height

-- a view: the scale of its heights, the part of the world that is shown, its sides longitudes and heights; the sides in pixels of the whole picture
-- that shows it; which column and row of that are the first of the canvas, and the canvas' sides; and how many of these pixels a map's pixel is
pub record ViewValue : Type 0 where
  pub heights : Heights
  pub area : Area
  pub columns : ℕ
  pub rows : ℕ
  pub left : ℕ
  pub top : ℕ
  pub width : ℕ
  pub height : ℕ
  pub factor : ℕ

-- the view of an area by a picture of so many columns and rows, of which the canvas is the whole, and whose pixels are the map's
abbrev pub plain_view : Heights → Area → ℕ → ℕ → ViewValue
plain_view heights area width height = record {
  heights = heights;
  area = area;
  columns = width;
  rows = height;
  left = 0;
  top = 0;
  width = width;
  height = height;
  factor = 1;
}

-- the view of the same area by the whole picture that is so many times as fine in both directions
abbrev pub fine_view : ViewValue → ℕ → ViewValue
fine_view view factor = record view {
  columns = factor * view.columns;
  rows = factor * view.rows;
  left = 0;
  top = 0;
  width = factor * view.columns;
  height = factor * view.rows;
  factor = factor;
}

-- the view of the same picture by a canvas that is a block of it: so many columns and rows from one on
abbrev pub block_of : ViewValue → Stretch → Stretch → ViewValue
block_of view across down = record view { left = across.first; top = down.first; width = across.count; height = down.count }

-- the view of the same picture by all of it
abbrev pub whole_of : ViewValue → ViewValue
whole_of view = record view { left = 0; top = 0; width = view.columns; height = view.rows }

-- a side has so many pixels from one on, and they are some
pub record IsOnSide (pixels first count : ℕ) : Type 0 where
  pub some : 1 ≤ count
  pub within : first + count ≤ pixels

-- a side of so many pixels from one coordinate to another may show a map where a map's pixel is so many of them
pub record IsSide (pixels factor : ℕ) (low high : ℤ) : Type 0 where
  pub most : pixels ≤ factor * MAX_PICTURE_SIDE
  pub coarse : pos factor ≤ℤ (high -ℤ low)

-- the limits of views
pub record IsView (view : ViewValue) : Type 0 where
  pub area : IsExtent view.area
  pub factor : IsFactor view.factor
  pub columns : IsSide view.columns view.factor view.area.minx view.area.maxx
  pub rows : IsSide view.rows view.factor view.area.miny view.area.maxy
  pub across : IsOnSide view.columns view.left view.width
  pub down : IsOnSide view.rows view.top view.height

-- a view whose pixels are the map's may have one that is so many times as fine, if each side of its area has that many millionths
pub record IsFine (view : ViewValue) (factor : ℕ) : Type 0 where
  pub plain : view.factor ≡ 1
  pub across : pos factor ≤ℤ (view.area.maxx -ℤ view.area.minx)
  pub down : pos factor ≤ℤ (view.area.maxy -ℤ view.area.miny)

-- the one that is so many times as fine, if it may have it
abbrev pub fine_by : ViewValue → ℕ → Option ViewValue
fine_by view factor =
    if (nat_le 1 factor && view.factor == 1) && (int_le (pos factor) (view.area.maxx -ℤ view.area.minx) && int_le (pos factor) (view.area.maxy -ℤ view.area.miny))
    then Some (fine_view view factor)
    else None

-- the share that a part has of the whole, of a side of so many pixels: in sixteenths of a pixel, rounded down
unfoldable pub sixteenths : ℕ → ℤ → ℤ → ℤ
sixteenths pixels part whole = int_div_euclid (pos (16 * pixels) *ℤ part) whole

-- the greatest number of sixteenths that is at most the part's share
pub record IsRoundedDown (pixels : ℕ) (part whole n : ℤ) : Type 0 where
  pub at_most : (n *ℤ whole) ≤ℤ (pos (16 * pixels) *ℤ part)
  pub greatest : (m : ℤ) → (m *ℤ whole) ≤ℤ (pos (16 * pixels) *ℤ part) → m ≤ℤ n

-- the law that it is so
abbrev pub SixteenthsAreRoundedDown : Type 0
SixteenthsAreRoundedDown = (pixels : ℕ) (part whole : ℤ) → pos 0 <ℤ whole → IsRoundedDown pixels part whole (sixteenths pixels part whole)

-- how far a longitude is from the left of the canvas, and a latitude from its top, in sixteenths of a pixel
abbrev pub across_of : ViewValue → ℤ → ℤ
across_of view longitude = sixteenths view.columns (longitude -ℤ view.area.minx) (view.area.maxx -ℤ view.area.minx) -ℤ pos (16 * view.left)

abbrev pub down_of : ViewValue → ℤ → ℤ
down_of view latitude = sixteenths view.rows (view.area.maxy -ℤ height_of view.heights latitude) (view.area.maxy -ℤ view.area.miny) -ℤ pos (16 * view.top)

-- where a place lies: from the left of the canvas, and from its top
abbrev pub device_point : ViewValue → Place → DevicePoint
device_point view p = record { x = across_of view p.x; y = down_of view p.y }

-- where the places of some parts lie
abbrev pub points_of : ViewValue → List (List Place) → List (List DevicePoint)
points_of view parts = map (map (device_point view)) parts

-- how many millionths of a degree so many pixels show, where a side of that many shows a span: rounded up
unfoldable pub shown_by : ℕ → ℕ → ℕ → ℕ
shown_by margin pixels span = div_ceil (margin * span) pixels

-- so many millionths are enough for the margin's share of the span, and they are the fewest that are
pub record IsRoundedUp (margin pixels span n : ℕ) : Type 0 where
  pub enough : margin * span ≤ n * pixels
  pub fewest : (m : ℕ) → margin * span ≤ m * pixels → n ≤ m

-- the law that it is so
abbrev pub MarginsAreRoundedUp : Type 0
MarginsAreRoundedUp = (margin pixels span : ℕ) → 1 ≤ pixels → IsRoundedUp margin pixels span (shown_by margin pixels span)

-- how many millionths lie before a column of a side of so many pixels that shows a span, below 0 where the column lies before the side: rounded down
unfoldable pub shown_before : ℤ → ℕ → ℕ → ℤ
shown_before column pixels span = int_div_euclid (column *ℤ pos span) (pos pixels)

-- so many millionths are at most the column's share of the span, and they are the most that are
pub record IsBefore (column : ℤ) (pixels span : ℕ) (n : ℤ) : Type 0 where
  pub at_most : (n *ℤ pos pixels) ≤ℤ (column *ℤ pos span)
  pub greatest : (m : ℤ) → (m *ℤ pos pixels) ≤ℤ (column *ℤ pos span) → m ≤ℤ n

-- the law that it is so
abbrev pub BeginningsAreRoundedDown : Type 0
BeginningsAreRoundedDown = (column : ℤ) (pixels span : ℕ) → 1 ≤ pixels → IsBefore column pixels span (shown_before column pixels span)

-- the part of the world that the canvas shows, and so many pixels on each side of it
abbrev pub window : ViewValue → ℕ → Area
window view margin =
    let across = unsigned_abs (view.area.maxx -ℤ view.area.minx) in
    let down = unsigned_abs (view.area.maxy -ℤ view.area.miny) in
    record {
      minx = view.area.minx +ℤ shown_before (pos view.left -ℤ pos margin) view.columns across;
      miny = south_of view.heights (view.area.maxy -ℤ pos (shown_by (view.top + view.height + margin) view.rows down));
      maxx = view.area.minx +ℤ pos (shown_by (view.left + view.width + margin) view.columns across);
      maxy = north_of view.heights (view.area.maxy -ℤ shown_before (pos view.top -ℤ pos margin) view.rows down);
    }

-- the pixel lies on the canvas, or at most so many columns left or right of it and so many rows above or below
pub record IsNear (view : ViewValue) (margin : ℕ) (pixel : PixelValue) : Type 0 where
  pub left : neg_ℤ (pos margin) ≤ℤ pixel.i
  pub right : pixel.i <ℤ pos (view.width + margin)
  pub top : neg_ℤ (pos margin) ≤ℤ pixel.j
  pub bottom : pixel.j <ℤ pos (view.height + margin)

-- the law that the window contains each place whose pixel is so near to the canvas
abbrev pub WindowHasNearPlaces : Type 0
WindowHasNearPlaces = (view : ViewValue) (margin : ℕ) (place : Place) → IsView view →
    IsNear view margin (pixel_of (device_point view place)) → HasPlace (window view margin) place

-- a point of a block lies where it does on the whole picture, less so many columns and rows
pub record IsMovedBy (left top : ℕ) (whole block : DevicePoint) : Type 0 where
  pub across : block.x ≡ whole.x -ℤ pos (16 * left)
  pub down : block.y ≡ whole.y -ℤ pos (16 * top)

-- the law that places do so
abbrev pub BlocksArePartsOfTheWhole : Type 0
BlocksArePartsOfTheWhole = (view : ViewValue) (across down : Stretch) (place : Place) →
    IsMovedBy across.first down.first (device_point (whole_of view) place) (device_point (block_of view across down) place)

-- the law: what lies further north has no less a height
abbrev pub HeightsRise : Type 0
HeightsRise = (h : Heights) (a b : ℤ) → a ≤ℤ b → height_of h a ≤ℤ height_of h b

-- how much of height a millionth of a degree of latitude makes at most
abbrev pub steepest : Heights → ℕ
steepest heights.Latitudes = 1
steepest heights.Mercator = 12

-- the law that it is so
abbrev pub HeightsRiseSlowly : Type 0
HeightsRiseSlowly = (h : Heights) (a b : ℤ) → a ≤ℤ b → (height_of h b -ℤ height_of h a) ≤ℤ (pos (steepest h) *ℤ (b -ℤ a))

-- the law: the bounds of two heights are in their order
abbrev pub BoundsAreOrdered : Type 0
BoundsAreOrdered = (h : Heights) (low high : ℤ) → low ≤ℤ high → south_of h low ≤ℤ north_of h high

-- the law: what has a height between two others lies between their latitudes
abbrev pub HeightsAreBounded : Type 0
HeightsAreBounded = (h : Heights) (low high latitude : ℤ) → low ≤ℤ height_of h latitude → height_of h latitude ≤ℤ high →
    (south_of h low ≤ℤ latitude) × (latitude ≤ℤ north_of h high)
