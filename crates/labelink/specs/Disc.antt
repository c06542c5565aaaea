-- The pixels round a pixel of ink that an outline reaches (docs/DRAWING.md, "Labels" and "Smoothing").
use Rattle.std.specs.Prelude.{◌≡◌, ℕ, suc, zero, ◌+◌, ◌*◌, ◌<◌, ◌≤◌, ◌^◌, Bool, ◌&&◌, nat_le, ℤ, pos, neg_ℤ, ◌+ℤ◌, ◌-ℤ◌, int_le, int_lt, unsigned_abs, List, [], ◌∷◌, length, map, slice_index_or}
use Rattle.std.specs.List.{filter, flat_map, list_any}
use Rattle.geom.specs.Device.{PixelValue}
use Rattle.geom.specs.Range.{IsBelow}
use Rattle.scanfill.specs.declared.span.Span.{Span}

-- the numbers from -n to n
unfoldable pub numbers_to : ℕ → List ℤ
numbers_to zero = pos 0 ∷ []
numbers_to (suc n) = neg_ℤ (pos (suc n)) ∷ (pos (suc n) ∷ numbers_to n)

-- the square of a number of pixels
abbrev pub square : ℤ → ℕ
square z = unsigned_abs z * unsigned_abs z

-- so many columns and rows away is at most r pixels away
abbrev pub is_within : ℕ → ℤ → ℤ → Bool
is_within r across down = nat_le (square across + square down) (r * r)

-- the steps of at most r pixels that lead so many rows down
abbrev pub row_of_disc : ℕ → ℤ → List PixelValue
row_of_disc r down = map (λ across. record { i = across; j = down }) (filter (λ across. is_within r across down) (numbers_to r))

-- the steps of at most r pixels
unfoldable pub disc : ℕ → List PixelValue
disc r = flat_map (row_of_disc r) (numbers_to r)

-- a run of ink in a row, from a column to before another one, with how far its outline reaches
pub record RunValue : Type 0 where
  pub reach : ℕ
  pub row : ℤ
  pub from : ℤ
  pub past : ℤ

-- the run has the pixel in a column and a row
abbrev pub has_pixel : RunValue → ℤ → ℤ → Bool
has_pixel run i j = (int_le run.row j && int_le j run.row) && (int_le run.from i && int_lt i run.past)

-- a pixel is of the outline of a run where some pixel of the run is at most so many pixels away
unfoldable pub outlines_run : RunValue → ℤ → ℤ → Bool
outlines_run run i j = list_any (λ step. has_pixel run (i +ℤ step.i) (j +ℤ step.j)) (disc run.reach)

-- a column lies in the run, or so many columns or fewer from it
abbrev pub is_beside : RunValue → ℕ → ℤ → Bool
is_beside run half i = int_le (run.from -ℤ pos half) i && int_lt i (run.past +ℤ pos half)

-- a pixel is of the outline of one of some runs
abbrev pub outlines_some : List RunValue → ℤ → ℤ → Bool
outlines_some runs i j = list_any (λ run. outlines_run run i j) runs

-- the run of a span of columns that are counted from one on
abbrev pub run_at : ℕ → ℤ → ℤ → Span → RunValue
run_at reach left row span = record { reach = reach; row = row; from = left +ℤ pos span.from; past = left +ℤ pos span.to }

-- a pixel is of the outline of the run of one of some spans
abbrev pub outlines_spans : ℕ → ℤ → ℤ → List Span → ℤ → ℤ → Bool
outlines_spans reach left row spans i j = list_any (λ span. outlines_run (run_at reach left row span) i j) spans

-- row and columns have the sizes of those of glyphs
pub record IsRun (run : RunValue) : Type 0 where
  pub row : IsBelow (2 ^ 48) run.row
  pub from : IsBelow (2 ^ 48) run.from
  pub past : IsBelow (2 ^ 48) run.past

-- half a chord of a disc: the most pixels across that are at most r pixels away with so many down
pub record IsHalfChord (r down half : ℕ) : Type 0 where
  pub inside : (half * half + down * down) ≤ (r * r)
  pub beyond : (r * r) < ((half + 1) * (half + 1) + down * down)

-- the half chords of a disc, by how far down
pub record AreHalfChords (r : ℕ) (halves : List ℕ) : Type 0 where
  pub count : length halves ≡ r + 1
  pub all : (down : ℕ) → down < length halves → IsHalfChord r down (slice_index_or halves down 0)
