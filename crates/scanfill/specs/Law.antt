-- The pixels of rings by clipped edges and their columns (docs/DRAWING.md, "When a pixel belongs to a polygon").
use Rattle.std.specs.Prelude.{◌≡◌, ℕ, ◌+◌, ◌<◌, Bool, false, ◌&&◌, pos, int_le, List, count_by}
use Rattle.geom.specs.Device.{DevicePoint, pixel_centre}
use Rattle.geom.specs.Edge.{EdgeEnds}
use Rattle.geom.specs.EvenOdd.{edges, is_inside, is_odd}
use Rattle.clip.specs.EdgeClass.{class_of, has_row}
use Rattle.clip.specs.declared.class.EdgeClass.{EdgeClass}
use Rattle.clip.specs.declared.class.EdgeClass.TheVariants as class
use Rattle.scanfill.specs.Column.{column_of}

-- the class is that of an edge left of the view which crosses row j
abbrev pub is_left_in_row : EdgeClass → ℕ → Bool
is_left_in_row (class.LeftOfView rows) j = has_row rows j
is_left_in_row _ j = false

-- the class is that of an edge to be walked which crosses row j
abbrev pub is_walked_in_row : EdgeClass → ℕ → Bool
is_walked_in_row (class.Walk rows) j = has_row rows j
is_walked_in_row _ j = false

-- an edge lies left of the view in row j, on w columns and h rows
abbrev pub counts_left : ℕ → ℕ → ℕ → EdgeEnds → Bool
counts_left w h j e = is_left_in_row (class_of e w h) j

-- it is walked there, and its column is at most i
abbrev pub counts_walked : ℕ → ℕ → ℕ → ℕ → EdgeEnds → Bool
counts_walked w h i j e = is_walked_in_row (class_of e w h) j && int_le (column_of e j) (pos i)

-- the law: a pixel of the view lies inside of the rings exactly where those edges together are odd in number
abbrev pub AreRunsInside : Type 0
AreRunsInside =
    (rings : List (List DevicePoint)) (w h i j : ℕ) → i < w → j < h →
    is_inside rings (pixel_centre (pos i) (pos j)) ≡ is_odd (count_by (counts_left w h j) (edges rings) + count_by (counts_walked w h i j) (edges rings))
