-- A few edges that replace all those of a polygon near the queried pixel (docs/WMS.md, "Feature information").
use Rattle.std.specs.Prelude.{◌≡◌, ℕ, ℤ, pos, ◌+ℤ◌, List, map}
use Rattle.std.specs.Int.{int_div_euclid, int_max, int_min}
use Rattle.geom.specs.Device.{pixel_centre}
use Rattle.geom.specs.Edge.{EdgeEnds}
use Rattle.geom.specs.EvenOdd.{is_covered}
use Rattle.geom.specs.World.{Place}
use Rattle.vertices.specs.Chain.{chain_edges}
use Rattle.viewport.specs.View.{ViewValue, device_point}
use Rattle.featureinfo.specs.Nearby.{IsOf}
use Rattle.featureinfo.specs.declared.nearby.Nearby.{Nearby}

-- by the even-odd rule the few edges cover the same near pixels as the many
pub record CoverAlike (n : Nearby) (few many : List EdgeEnds) : Type 0 where
  pub same : (i j : ℕ) → IsOf n i j → is_covered few (pixel_centre (pos i) (pos j)) ≡ is_covered many (pixel_centre (pos i) (pos j))

-- the edges from a vertex over those that follow it, on the picture
abbrev pub edges_along : ViewValue → Place → List Place → List EdgeEnds
edges_along view from rest = chain_edges (device_point view from) (map (device_point view) rest)

-- the first of the near rows whose pixel centres lie at a height or below it, or the row after them
unfoldable pub row_from : Nearby → ℤ → ℤ
row_from n y = int_min (int_max (int_div_euclid (y +ℤ pos 7) (pos 16)) (pos n.top)) (pos n.bottom)
