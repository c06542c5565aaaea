-- The columns of a row at which its pixels go in or out (docs/DRAWING.md, "When a pixel belongs to a polygon").
use Rattle.std.specs.Prelude.{◌≡◌, ℕ, ◌+◌, ◌≤◌, ◌<◌, Bool, false, not, if◌then◌else◌, ℤ, pos, int_le, List, length, take, slice_index_or, count_by}
use Rattle.geom.specs.EvenOdd.{is_odd}
use Rattle.geom.specs.declared.side.TheConstants.{MAX_PICTURE_SIDE}

-- an odd number of the columns up to the pixel's own flips
abbrev pub is_flipped : List Bool → ℕ → Bool
is_flipped flips i = is_odd (count_by (λ flip. flip) (take (i + 1) flips))

-- an answer, or the other one where the condition holds
abbrev pub flip_if : Bool → Bool → Bool
flip_if b answer = if b then not answer else answer

-- the pixels from a column on are flipped, and no others
pub record AreFlippedFrom (column : ℤ) (old new : List Bool) : Type 0 where
  pub width : length new ≡ length old
  pub all : (i : ℕ) → i < length old → is_flipped new i ≡ flip_if (int_le column (pos i)) (is_flipped old i)

-- no column flips outside of those from one to before another
pub record AreWithin (flips : List Bool) (first past : ℕ) : Type 0 where
  pub width : length flips ≤ MAX_PICTURE_SIDE
  pub start : first ≤ length flips
  pub bound : past ≤ length flips
  pub before : (i : ℕ) → i < first → slice_index_or flips i false ≡ false
  pub after : (i : ℕ) → past ≤ i → slice_index_or flips i false ≡ false
