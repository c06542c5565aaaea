-- Places that surely lie in one pixel (docs/developers/WALKS.md, "The way of one line").
use Rattle.std.specs.Prelude.{◌≡◌, ℕ, ◌*◌, ◌^◌, ℤ, pos, ◌-ℤ◌, ◌*ℤ◌, ◌≤ℤ◌, true}
use Rattle.std.specs.Int.{int_div_euclid}
use Rattle.geom.specs.Device.{PixelValue, pixel_of}
use Rattle.geom.specs.Range.{IsBelow}
use Rattle.geom.specs.World.{Area, IsExtent, Place}
use Rattle.viewport.specs.View.{ViewValue, device_point, down_of}
use Rattle.inking.specs.Stroked.{has_place}

-- so many millionths of a degree are no more than a sixteenth of a pixel shows, where a side of so many pixels shows a whole
pub record IsGrain (pixels : ℕ) (whole grain : ℤ) : Type 0 where
  pub least : pos 0 ≤ℤ grain
  pub most : IsBelow (2 ^ 31) grain
  pub fits : (pos (16 * pixels) *ℤ grain) ≤ℤ whole

-- the same of both axes of a view: of longitudes, and of heights
pub record AreGrains (view : ViewValue) (across down : ℤ) : Type 0 where
  pub area : IsExtent view.area
  pub columns : IsGrain view.columns (view.area.maxx -ℤ view.area.minx) across
  pub rows : IsGrain view.rows (view.area.maxy -ℤ view.area.miny) down

-- the row of pixels that a latitude lies in
abbrev pub row_at : ViewValue → ℤ → ℤ
row_at view latitude = int_div_euclid (down_of view latitude) (pos 16)

-- all latitudes between two lie in a row
abbrev pub AreOfRow : ViewValue → ℤ → ℤ → ℤ → Type 0
AreOfRow view south north row = (latitude : ℤ) → south ≤ℤ latitude → latitude ≤ℤ north → row_at view latitude ≡ row

-- all places of a box lie in one pixel
abbrev pub AreOfPixel : ViewValue → Area → PixelValue → Type 0
AreOfPixel view box pixel = (p : Place) → has_place box p ≡ true → pixel_of (device_point view p) ≡ pixel
