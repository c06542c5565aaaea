-- Sums of the channels of pixels that stand in columns.
use Rattle.std.specs.Prelude.{◌≡◌, ℕ, ◌+◌, ◌*◌, ◌<◌, ◌≤◌, List, Option, length, sum, take, drop, slice_index_or}
use Rattle.mapdefs.specs.declared.colour.Rgb.{Rgb}
use Rattle.smoothing.specs.Fine.{pixels_in}
use Rattle.smoothing.specs.Sums.{AreSums}
use Rattle.smoothing.specs.declared.sums.Sums.{Sums}

-- what so many columns from one on make together
abbrev pub joined : List ℕ → List ℕ → ℕ → ℕ → Sums
joined outer inner at count = record { outer = sum (take count (drop at outer)); inner = sum (take count (drop at inner)) }

-- the sums are those of so many columns of the fine picture from one on, in so many rows
pub record AreColumns (fine : ℕ → ℕ → Option Rgb) (first columns rows : ℕ) (outer inner : List ℕ) : Type 0 where
  pub wide : length outer ≡ columns
  pub high : length inner ≡ columns
  pub sums : (at count : ℕ) → at + count ≤ columns → AreSums (pixels_in fine (first + at) count 0 rows) (joined outer inner at count)
  pub few : (k : ℕ) → k < columns → slice_index_or outer k 0 ≤ rows * 16711935
  pub fewer : (k : ℕ) → k < columns → slice_index_or inner k 0 ≤ rows * 16711935
