-- Views by a picture of their own (docs/DRAWING.md, "From the world to the picture").
use Rattle.std.specs.Prelude.{◌≡◌, ℕ, pos, ◌+ℤ◌, ◌-ℤ◌, unsigned_abs}
use Rattle.geom.specs.Device.{DevicePoint}
use Rattle.geom.specs.Side.{IsPictureSide}
use Rattle.geom.specs.World.{Area, IsExtent, Place}
use Rattle.viewport.specs.declared.heights.Heights.{Heights}
use Rattle.viewport.specs.View.{device_point, height_of, north_of, plain_view, shown_by, sixteenths, south_of, window}

-- where a place lies on a picture that shows all of an area: from the left, and from the top
abbrev pub plain_point : Heights → Area → ℕ → ℕ → Place → DevicePoint
plain_point heights area width height p = record {
  x = sixteenths width (p.x -ℤ area.minx) (area.maxx -ℤ area.minx);
  y = sixteenths height (area.maxy -ℤ height_of heights p.y) (area.maxy -ℤ area.miny);
}

-- an area with what so many pixels show added on each side
abbrev pub plain_window : Heights → Area → ℕ → ℕ → ℕ → Area
plain_window heights area width height margin =
    let across = shown_by margin width (unsigned_abs (area.maxx -ℤ area.minx)) in
    let down = shown_by margin height (unsigned_abs (area.maxy -ℤ area.miny)) in
    record {
      minx = area.minx -ℤ pos across;
      miny = south_of heights (area.miny -ℤ pos down);
      maxx = area.maxx +ℤ pos across;
      maxy = north_of heights (area.maxy +ℤ pos down);
    }

-- the points and the windows of a view by a picture of its own are these
pub record IsPlain (heights : Heights) (area : Area) (width height : ℕ) : Type 0 where
  pub points : (p : Place) → device_point (plain_view heights area width height) p ≡ plain_point heights area width height p
  pub windows : (margin : ℕ) → window (plain_view heights area width height) margin ≡ plain_window heights area width height margin

-- the law that it is so
abbrev pub PlainViewsShowTheirArea : Type 0
PlainViewsShowTheirArea = (heights : Heights) (area : Area) (width height : ℕ) → IsExtent area → IsPictureSide width → IsPictureSide height → IsPlain heights area width height
