-- The columns of a row that a line covers (docs/DRAWING.md, "When a pixel belongs to a line").
use Rattle.std.specs.Prelude.{◌≡◌, ℕ, ◌<◌, Bool, ◌||◌, false, ℤ, pos, ◌+ℤ◌, ◌*ℤ◌, int_le, List, length, slice_index_or}
use Rattle.scanfill.specs.Runs.{has_column}
use Rattle.scanfill.specs.declared.span.Span.{Span}

-- so many times the column, and an offset, are no less than 0
abbrev pub is_kept : ℤ → ℤ → ℕ → Bool
is_kept scale offset i = int_le (pos 0) (pos i *ℤ scale +ℤ offset)

-- the column is marked
abbrev pub is_marked : List Bool → ℕ → Bool
is_marked marks i = slice_index_or marks i false

-- the columns of the span have become marked too, and no others
pub record AreMarked (span : Span) (old new : List Bool) : Type 0 where
  pub width : length new ≡ length old
  pub all : (i : ℕ) → i < length old → is_marked new i ≡ (has_column span i || is_marked old i)
