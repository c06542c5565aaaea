-- The column in which an edge crosses a row (docs/DRAWING.md, "When a pixel belongs to a polygon").
use Rattle.std.specs.Prelude.{◌≡◌, ℕ, ◌≤◌, ◌<◌, true, ℤ, pos, neg_ℤ, ◌-ℤ◌, ◌*ℤ◌, int_le}
use Rattle.std.specs.Int.{int_div_euclid}
use Rattle.geom.specs.Device.{centre, pixel_centre}
use Rattle.geom.specs.Edge.{EdgeEnds, low_end, rise, run, crosses_at_or_left}
use Rattle.clip.specs.EdgeClass.{crosses_row}

-- the column is the least, below 0 too, whose pixel centre in row j the edge crosses at it or left of it
pub record IsColumn (e : EdgeEnds) (j : ℕ) (column : ℤ) : Type 0 where
  pub at : crosses_at_or_left (pixel_centre column (pos j)) e ≡ true
  pub least : (i : ℤ) → crosses_at_or_left (pixel_centre i (pos j)) e ≡ int_le column i

-- how far the centre of column 0 lies right of the crossing in row j, in sixteenths of a pixel times the edge's rise
abbrev pub reach : EdgeEnds → ℕ → ℤ
reach e j = (pos 8 -ℤ (low_end e).x) *ℤ rise e -ℤ (centre (pos j) -ℤ (low_end e).y) *ℤ run e

-- that column, as one quotient
unfoldable pub column_of : EdgeEnds → ℕ → ℤ
column_of e j = neg_ℤ (int_div_euclid (reach e j) (pos 16 *ℤ rise e))

-- the edge crosses each row from one to before another
pub record CrossesRows (e : EdgeEnds) (from past : ℕ) : Type 0 where
  pub each : (j : ℕ) → from ≤ j → j < past → crosses_row e j ≡ true
