-- A sweep over the rows of a polygon, from the top (docs/DRAWING.md, "When a pixel belongs to a polygon").
use Rattle.std.specs.Prelude.{◌≡◌, ℕ, ◌≤◌, ◌<◌, Bool, true, false, pos, List, replicate, count_by}
use Rattle.geom.specs.Device.{pixel_centre}
use Rattle.geom.specs.Edge.{EdgeEnds, crosses_at_or_left}
use Rattle.geom.specs.EvenOdd.{is_covered}
use Rattle.clip.specs.EdgeClass.{class_of}
use Rattle.clip.specs.declared.class.EdgeClass.{EdgeClass}
use Rattle.clip.specs.declared.class.EdgeClass.TheVariants as class
use Rattle.scanfill.specs.Crossing.{reaches}
use Rattle.scanfill.specs.declared.crossing.Crossing.{Crossing}

-- a sweep: the polygon, the sides of the view, and the row that comes next
pub record SweepValue : Type 0 where
  pub edges : List EdgeEnds
  pub width : ℕ
  pub height : ℕ
  pub row : ℕ

-- the polygon covers the pixel in a column of the row that comes next
abbrev pub covers_next : SweepValue → ℕ → Bool
covers_next sweep i = is_covered sweep.edges (pixel_centre (pos i) (pos sweep.row))

-- the polygon covers no pixel of the rows from one to before another
abbrev pub AreEmptyRows : SweepValue → ℕ → ℕ → Type 0
AreEmptyRows sweep from past = (i j : ℕ) → i < sweep.width → from ≤ j → j < past → is_covered sweep.edges (pixel_centre (pos i) (pos j)) ≡ false

-- the class is that of an edge to be walked
abbrev pub is_walk : EdgeClass → Bool
is_walk (class.Walk rows) = true
is_walk _ = false

-- the number of a polygon's edges that are walked on w columns and h rows
abbrev pub walk_count : List EdgeEnds → ℕ → ℕ → ℕ
walk_count polygon w h = count_by (λ e. is_walk (class_of e w h)) polygon

-- the crossings reach each pixel of the rows that are left as often as the edges cross its centre's height at it or left of it
pub record ReachesAll (polygon : List EdgeEnds) (width height row : ℕ) (crossings : List Crossing) (flips : List Bool) : Type 0 where
  pub most : row ≤ height
  pub quiet : flips ≡ replicate width false
  pub counts : (i j : ℕ) → i < width → row ≤ j → j < height →
      count_by (crosses_at_or_left (pixel_centre (pos i) (pos j))) polygon ≡ count_by (reaches i j) crossings
