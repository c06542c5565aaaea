-- A view that is prepared for many places (docs/DRAWING.md, "From the world to the picture").
use Rattle.std.specs.Prelude.{◌≡◌, ◌*◌, ◌-ℤ◌, unsigned_abs}
use Rattle.viewport.specs.Axis.{AxisValue}
use Rattle.viewport.specs.View.{IsView, ViewValue}

-- the first axis is that of the view's columns and longitudes, the second that of its rows and heights
pub record IsProjection (view : ViewValue) (first second : AxisValue) : Type 0 where
  pub limits : IsView view
  pub across : first ≡ record { times = 16 * view.columns; whole = unsigned_abs (view.area.maxx -ℤ view.area.minx); first = 16 * view.left }
  pub down : second ≡ record { times = 16 * view.rows; whole = unsigned_abs (view.area.maxy -ℤ view.area.miny); first = 16 * view.top }
