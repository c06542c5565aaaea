-- The pixels of a picture that are near the queried one (docs/WMS.md, "Feature information").
use Rattle.std.specs.Prelude.{◌≡◌, ℕ, ◌+◌, ◌-◌, ◌<◌, ◌≤◌, List, min, Bool, true, ◌&&◌, ◌↔◌, pos, int_le, int_lt, nat_lt}
use Rattle.std.specs.Int.{abs_diff}
use Rattle.std.specs.List.{list_any}
use Rattle.geom.specs.Device.{PixelValue, pixel_of}
use Rattle.geom.specs.World.{Place}
use Rattle.viewport.specs.View.{ViewValue, device_point}
use Rattle.scanfill.specs.declared.span.Span.{Span}
use Rattle.featureinfo.specs.declared.nearby.Nearby.{Nearby}

-- the pixels within so many columns and rows of a pixel of a picture of that width and height
abbrev pub nearby_of : ℕ → ℕ → ℕ → ℕ → ℕ → Nearby
nearby_of width height tolerance i j = record {
  left = i - tolerance;
  right = min (i + tolerance + 1) width;
  top = j - tolerance;
  bottom = min (j + tolerance + 1) height;
}

-- a pixel is one of the near ones
abbrev pub has_pixel : Nearby → PixelValue → Bool
has_pixel n p = int_le (pos n.left) p.i && int_lt p.i (pos n.right) && int_le (pos n.top) p.j && int_lt p.j (pos n.bottom)

-- a span of a row has one of the columns from one to before another
abbrev pub meets : ℕ → ℕ → Span → Bool
meets left right span = nat_lt span.from right && nat_lt left span.to

-- a point of a part has its pixel among them, and a point of all parts
abbrev pub part_near : ViewValue → List Place → Nearby → Bool
part_near view part n = list_any (λ place. has_pixel n (pixel_of (device_point view place))) part

abbrev pub points_near : ViewValue → List (List Place) → Nearby → Bool
points_near view parts n = list_any (λ part. part_near view part n) parts

-- the pixel in a column and a row is one of the near ones
pub record IsOf (n : Nearby) (column row : ℕ) : Type 0 where
  pub left : n.left ≤ column
  pub right : column < n.right
  pub top : n.top ≤ row
  pub bottom : row < n.bottom

-- one of the near pixels passes a test of its column and its row
pub record SomeNear (n : Nearby) (test : ℕ → ℕ → Bool) : Type 0 where
  pub column : ℕ
  pub row : ℕ
  pub left : n.left ≤ column
  pub right : column < n.right
  pub top : n.top ≤ row
  pub bottom : row < n.bottom
  pub passes : test column row ≡ true

-- the law: the near pixels are those of the picture within so many columns and so many rows of the queried one
abbrev pub NearbyAreWithin : Type 0
NearbyAreWithin = (width height tolerance i j column row : ℕ) → i < width → j < height →
    let n = nearby_of width height tolerance i j in
    ((n.left ≤ column) × (column < n.right) × (n.top ≤ row) × (row < n.bottom))
    ↔ ((column < width) × (row < height) × (abs_diff column i ≤ tolerance) × (abs_diff row j ≤ tolerance))
