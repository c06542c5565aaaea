-- Which rows of a picture an edge crosses, and on which side of it (docs/DRAWING.md, "When a pixel belongs to a polygon").
use Rattle.std.specs.Prelude.{◌≡◌, ℕ, min, max, ◌<◌, ◌⊎◌, Bool, true, false, ◌&&◌, ◌||◌, nat_le, nat_lt, if◌then◌else◌, ℤ, pos, negsuc, ◌+ℤ◌, ◌-ℤ◌, int_le, int_lt}
use Rattle.std.specs.Int.{int_div_euclid}
use Rattle.geom.specs.Device.{centre}
use Rattle.geom.specs.Edge.{EdgeEnds, low_end, high_end, crosses_height}
use Rattle.clip.specs.declared.class.EdgeClass.{EdgeClass}
use Rattle.clip.specs.declared.class.EdgeClass.TheVariants as class
use Rattle.clip.specs.declared.rows.RowRange.{RowRange}

-- the edge crosses the height of a row's pixel centres
abbrev pub crosses_row : EdgeEnds → ℕ → Bool
crosses_row e j = crosses_height e (centre (pos j))

-- the row is one of the rows
abbrev pub has_row : RowRange → ℕ → Bool
has_row rows j = nat_le rows.from j && nat_lt j rows.to

-- the rows from the first one to the last one of two groups
abbrev pub joined : RowRange → RowRange → RowRange
joined a b =
    if nat_le b.to b.from
    then a
    else (if nat_le a.to a.from then b else record { from = min a.from b.from; to = max a.to b.to })

-- both ends lie right of the pixel centres of the last of w columns
abbrev pub is_right_of_view : EdgeEnds → ℕ → Bool
is_right_of_view e w = int_lt (centre (pos w -ℤ pos 1)) (low_end e).x && int_lt (centre (pos w -ℤ pos 1)) (high_end e).x

-- both ends lie left of the pixel centres of the first column, or at them
abbrev pub is_left_of_view : EdgeEnds → Bool
is_left_of_view e = int_le (low_end e).x (centre (pos 0)) && int_le (high_end e).x (centre (pos 0))

-- an index that is cut off at 0
abbrev pub at_least_zero : ℤ → ℕ
at_least_zero (pos n) = n
at_least_zero (negsuc n) = 0

-- the first of h rows whose pixel centres lie at that height or below it, or h
unfoldable pub first_row : ℤ → ℕ → ℕ
first_row y h = min (at_least_zero (int_div_euclid (y +ℤ pos 7) (pos 16))) h

-- the rows of h that begin at the upper end and end before the lower one
abbrev pub rows_of : EdgeEnds → ℕ → RowRange
rows_of e h = record { from = first_row (low_end e).y h; to = first_row (high_end e).y h }

-- what an edge does to the pixels of w columns and h rows
unfoldable pub class_of : EdgeEnds → ℕ → ℕ → EdgeClass
class_of e w h =
    if nat_le (rows_of e h).to (rows_of e h).from || is_right_of_view e w
    then class.Drop
    else (if is_left_of_view e then class.LeftOfView (rows_of e h) else class.Walk (rows_of e h))

-- the rows are those of h that the edge crosses, and there is one at least
pub record AreRowsOf (e : EdgeEnds) (h : ℕ) (rows : RowRange) : Type 0 where
  pub some : rows.from < rows.to
  pub all : (j : ℕ) → has_row rows j ≡ (nat_lt j h && crosses_row e j)

-- a dropped edge crosses none of h rows or lies right of the view, one left of the view lies there, one to be walked lies on neither side
abbrev pub IsClass : EdgeEnds → ℕ → ℕ → EdgeClass → Type 0
IsClass e w h class.Drop = ((j : ℕ) → j < h → crosses_row e j ≡ false) ⊎ (is_right_of_view e w ≡ true)
IsClass e w h (class.LeftOfView rows) = AreRowsOf e h rows × (is_right_of_view e w ≡ false) × (is_left_of_view e ≡ true)
IsClass e w h (class.Walk rows) = AreRowsOf e h rows × (is_right_of_view e w ≡ false) × (is_left_of_view e ≡ false)
