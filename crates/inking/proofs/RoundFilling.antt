-- Rows of pixels that are filled, one after another.
use Rattle.std.proofs.Common.{◌≡◌, ◌∙◌, ℕ, ◌+◌, ◌*◌, ◌<◌, ◌≤◌, Bool, true, false, ◌&&◌, ◌||◌, length, Option, refl, sym, ap, arith}
use Rattle.mapdefs.specs.declared.colour.Rgb.{Rgb}
use Rattle.mapdefs.specs.declared.picture.PictureFields.{PictureFields}
use Rattle.scanfill.specs.Runs.{has_column}
use Rattle.scanfill.specs.declared.span.Span.{Span}
use Rattle.strokes.proofs.Marking.{no-column}
use Rattle.canvas.specs.Painted.{IsFilled}
use Rattle.canvas.proofs.Filling.{filled-either, filled-nothing, filled-same, filled-within}
use Rattle.canvas.proofs.Boxing.{is_in_box}
use Rattle.inking.specs.Stroked.{PixelTest}
use Rattle.inking.proofs.Stripping.{none-yet, one-more}

-- what a test passes in the rows from one to before another
abbrev pub in_rows : PixelTest → ℕ → ℕ → PixelTest
in_rows test from past i j = has_column (record { from = from; to = past }) j && test i j

pub rows-none : (test : PixelTest) (colour : ℕ → ℕ → Option Rgb) (from : ℕ) (a : PictureFields) → IsFilled (in_rows test from from) colour a a
rows-none test colour from a = filled-same (λ i j. false) (in_rows test from from) colour a a (λ i j. none-yet from j (test i j)) (filled-nothing colour a)

pub rows-next : (test : PixelTest) (colour : ℕ → ℕ → Option Rgb) (from row : ℕ) (span : Span) (a b d : PictureFields) → from ≤ row → length a.pixels ≡ a.width * a.height →
    ((i : ℕ) → i < a.width → has_column span i ≡ test i row) → IsFilled (in_rows test from row) colour a b →
    IsFilled (is_in_box span (record { from = row; to = row + 1 })) colour b d → IsFilled (in_rows test from (row + 1)) colour a d
rows-next test colour from row span a b d least area all f g =
    filled-within (λ i j. in_rows test from row i j || is_in_box span (record { from = row; to = row + 1 }) i j) (in_rows test from (row + 1)) colour a d area
    (λ i j column below. one-more from row j (test i j) (has_column span i) least (λ e. all i column ∙ ap (λ n. test i n) (sym e)))
    (filled-either (in_rows test from row) (is_in_box span (record { from = row; to = row + 1 })) colour a b d f g)

-- a test that passes nothing outside of some rows
inside : (h t : Bool) → (h ≡ false → t ≡ false) → (h && t) ≡ t
inside true t f = refl
inside false t f = sym (f refl)

same-past : (rows : Span) (past j : ℕ) → rows.to ≤ past → past ≤ rows.to → has_column (record { from = rows.from; to = past }) j ≡ has_column rows j
same-past rows past j a b = let e : past ≡ rows.to = omega arith in rw e refl

pub rows-all : (test : PixelTest) (colour : ℕ → ℕ → Option Rgb) (rows : Span) (past : ℕ) (a b : PictureFields) → rows.to ≤ past → past ≤ rows.to → length a.pixels ≡ a.width * a.height →
    ((i j : ℕ) → i < a.width → j < a.height → has_column rows j ≡ false → test i j ≡ false) → IsFilled (in_rows test rows.from past) colour a b → IsFilled test colour a b
rows-all test colour rows past a b most last area none f =
    filled-within (in_rows test rows.from past) test colour a b area
    (λ i j column below. ap (λ h. h && test i j) (same-past rows past j most last) ∙ inside (has_column rows j) (test i j) (none i j column below)) f

pub rows-empty : (test : PixelTest) (colour : ℕ → ℕ → Option Rgb) (rows : Span) (a : PictureFields) → rows.to ≤ rows.from → length a.pixels ≡ a.width * a.height →
    ((i j : ℕ) → i < a.width → j < a.height → has_column rows j ≡ false → test i j ≡ false) → IsFilled test colour a a
rows-empty test colour rows a empty area none =
    filled-within (λ i j. false) test colour a a area (λ i j column below. sym (none i j column below (no-column rows j empty))) (filled-nothing colour a)
