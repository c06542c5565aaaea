-- The pixels at which the rows of a picture go in or out, in one list for all rows (docs/DRAWING.md, "When a pixel belongs to a polygon").
use Rattle.std.specs.Prelude.{ℕ, ◌+◌, ◌*◌, ◌/◌, ◌%◌, ◌≤◌, ◌<◌, Bool, ◌&&◌, ◌==◌, nat_le, nat_lt, List, All, length, slice_index_or, count_by}
use Rattle.geom.specs.EvenOdd.{is_odd}
use Rattle.scanfill.specs.declared.row_spans.RowSpan.{RowSpan}

-- the index of a pixel by its row and its column, where each row has 2,048
abbrev pub index_of : ℕ → ℕ → ℕ
index_of j i = j * 2048 + i

-- the index is that of a pixel of row j, in column i or left of it
abbrev pub flips_by : ℕ → ℕ → ℕ → Bool
flips_by i j index = nat_le (index_of j 0) index && nat_le index (index_of j i)

-- an odd number of flips of row j are in column i or left of it
abbrev pub is_pixel_flipped : List ℕ → ℕ → ℕ → Bool
is_pixel_flipped flips i j = is_odd (count_by (flips_by i j) flips)

-- flips, and the sides of the picture that they are flips of
pub record FlipsValue : Type 0 where
  pub width : ℕ
  pub height : ℕ
  pub flips : List ℕ

-- a flip is at a pixel of the picture
pub record IsFlipOf (width height flip : ℕ) : Type 0 where
  pub above : flip / 2048 < height
  pub left : flip % 2048 < width

-- each flip is at most those that follow it
abbrev pub AreRising : List ℕ → Type 0
AreRising flips = (k l : ℕ) (d : ℕ) → k ≤ l → l < length flips → slice_index_or flips k d ≤ slice_index_or flips l d

-- the span holds the pixel in a column and a row
abbrev pub has_pixel : RowSpan → ℕ → ℕ → Bool
has_pixel span i j = j == span.row && (nat_le span.from i && nat_lt i span.to)

-- the span lies in a picture of w columns and h rows
pub record IsSpanOf (w h : ℕ) (span : RowSpan) : Type 0 where
  pub row : span.row < h
  pub some : span.from ≤ span.to
  pub within : span.to ≤ w

-- the flips are at pixels of the picture, and rise
pub record AreFlipsOf (w h : ℕ) (flips : List ℕ) : Type 0 where
  pub each : All (IsFlipOf w h) flips
  pub rising : AreRising flips
