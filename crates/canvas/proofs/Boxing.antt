-- Boxes of pixels that are filled.
use Rattle.std.proofs.Common.{◌≡◌, ◌∙◌, ℕ, ◌+◌, ◌*◌, ◌/◌, ◌%◌, ◌<◌, ◌≤◌, Bool, true, false, ◌&&◌, All, [], ◌∷◌, zero, suc, get_or, if◌then◌else◌, List, length, Option, refl, sym, ap, arith, ⊎_elim}
use Rattle.std.proofs.Math.Bool.{or-false}
use Rattle.std.proofs.lemmas.Bool.{and_from, and_left, and_right, cases_lt, le-leb, le-ltb, lt-leb, lt-ltb}
use Rattle.std.specs.Prelude.{nat_le, nat_lt}
use lib.IntN.{pos}
use Rattle.mapdefs.specs.declared.colour.Rgb.{Rgb}
use Rattle.mapdefs.specs.declared.picture.PictureFields.{PictureFields}
use Rattle.scanfill.specs.Runs.{has_column, is_in_spans}
use Rattle.scanfill.specs.declared.span.Span.{Span}
use Rattle.strokes.specs.Square.{SquareValue, covers_square, is_beside}
use Rattle.canvas.specs.Painted.{AreFilled, AreRowsFilled, HasRowsFilled, IsFilled, colour_of}
use Rattle.canvas.proofs.Filling.{filled-more, filled-within}

-- a box of columns and rows
abbrev pub is_in_box : Span → Span → ℕ → ℕ → Bool
is_in_box columns rows i j = has_column columns i && has_column rows j

-- no row is filled yet
pub box-none : (columns rows : Span) (colour : ℕ → ℕ → Option Rgb) (width from : ℕ) (a : List (Option Rgb)) → AreRowsFilled (is_in_box columns rows) colour width (record { from = from; to = from }) a a
box-none columns rows colour width from a = record { filled = λ at h low high. absurd (omega arith); before = λ at h low. refl; after = λ at h high. refl }

-- some columns of a row are those of a box in one of its rows
row-of : (columns rows : Span) (colour : ℕ → ℕ → Option Rgb) (width j : ℕ) (a b : List (Option Rgb)) → rows.from ≤ j → j < rows.to →
    AreRowsFilled (λ i k. has_column columns i) colour width (record { from = j; to = j + 1 }) a b → AreRowsFilled (is_in_box columns rows) colour width (record { from = j; to = j + 1 }) a b
row-of columns rows colour width j a b least below f = record {
  filled = λ at h low high.
      let here : at / width ≡ j = omega arith in
      let inside : has_column rows (at / width) ≡ true = rw here (and_from (nat_le rows.from j) (nat_lt j rows.to) (le-leb rows.from j least) (lt-ltb j rows.to below)) in
      let tests : has_column columns (at % width) ≡ is_in_box columns rows (at % width) (at / width) = sym (rw inside (and-true (has_column columns (at % width)))) in
      f.filled at h low high ∙ ap (λ t. if t then colour (at % width) (at / width) else colour_of a at) tests;
  before = f.before;
  after = f.after;
}
  where
    and-true : (t : Bool) → (t && true) ≡ t
    and-true true = refl
    and-true false = refl

-- a row of a box after rows of it
pub box-row : (columns rows : Span) (colour : ℕ → ℕ → Option Rgb) (width from j : ℕ) (a b c : List (Option Rgb)) → from ≡ rows.from → from ≤ j → j < rows.to → length b ≡ length a →
    AreRowsFilled (is_in_box columns rows) colour width (record { from = from; to = j }) a b → AreRowsFilled (λ i k. has_column columns i) colour width (record { from = j; to = j + 1 }) b c →
    AreRowsFilled (is_in_box columns rows) colour width (record { from = from; to = j + 1 }) a c
box-row columns rows colour width from j a b c is least below area f g =
    filled-more (is_in_box columns rows) colour width from j (j + 1) a b c least (omega arith) area f (row-of columns rows colour width j b c (omega (arith, is)) below g)

-- where all rows of a box are filled, it is
pub box-all : (columns rows : Span) (colour : ℕ → ℕ → Option Rgb) (width past : ℕ) (a b : List (Option Rgb)) → rows.to ≤ past →
    AreRowsFilled (is_in_box columns rows) colour width (record { from = rows.from; to = past }) a b → AreFilled (is_in_box columns rows) colour width a b
box-all columns rows colour width past a b last f = λ k h. ⊎_elim
    (λ (above : k / width < rows.from).
    f.before k h above
    ∙ rw (and_right (has_column columns (k % width)) (has_column rows (k / width)) (and_left (nat_le rows.from (k / width)) (nat_lt (k / width) rows.to) (lt-leb rows.from (k / width) above))) refl)
    (λ (from : rows.from ≤ k / width). ⊎_elim
    (λ (within : k / width < past). f.filled k h from within)
    (λ (below : past ≤ k / width).
    f.after k h below
    ∙ rw (and_right (has_column columns (k % width)) (has_column rows (k / width)) (and_right (nat_le rows.from (k / width)) (nat_lt (k / width) rows.to) (le-ltb (k / width) rows.to (omega arith)))) refl)
    (cases_lt (k / width) past))
    (cases_lt (k / width) rows.from)

-- one span is within a row
pub span-within : (columns : Span) (width : ℕ) → columns.from ≤ columns.to → columns.to ≤ width → All (λ (span : Span). (span.from ≤ span.to) × (span.to ≤ width)) (columns ∷ [])
span-within columns width order most = λ k d h. one k d h
  where
    one : (k : ℕ) (d : Span) → k < 1 → ((get_or (columns ∷ []) k d).from ≤ (get_or (columns ∷ []) k d).to) × ((get_or (columns ∷ []) k d).to ≤ width)
    one zero d h = (order, most)
    one (suc k) d h = absurd (omega arith)

-- a row of one span is a box of one row
pub row-box : (span : Span) (colour : ℕ → ℕ → Option Rgb) (row : ℕ) (a b : PictureFields) →
    HasRowsFilled (λ i k. is_in_spans (span ∷ []) i) colour row (row + 1) a b → IsFilled (is_in_box span (record { from = row; to = row + 1 })) colour a b
row-box span colour row a b f = record {
  width = f.width;
  height = f.height;
  area = f.area;
  filled = box-all span (record { from = row; to = row + 1 }) colour a.width (row + 1) a.pixels b.pixels (omega arith)
      (row-of span (record { from = row; to = row + 1 }) colour a.width row a.pixels b.pixels (omega arith) (omega arith) (record {
        filled = λ at h low high.
            f.rows.filled at h low high ∙ ap (λ t. if t then colour (at % a.width) (at / a.width) else colour_of a.pixels at) (or-false (has_column span (at % a.width)));
        before = f.rows.before;
        after = f.rows.after;
      }));
}

-- a square is its columns in its rows
pub filled-square : (square : SquareValue) (columns rows : Span) (colour : ℕ → ℕ → Option Rgb) (a b : PictureFields) → length a.pixels ≡ a.width * a.height →
    ((i : ℕ) → i < a.width → has_column columns i ≡ is_beside square.size square.pixel.i (pos i)) → ((j : ℕ) → j < a.height → has_column rows j ≡ is_beside square.size square.pixel.j (pos j)) →
    IsFilled (is_in_box columns rows) colour a b → IsFilled (λ i j. covers_square square (pos i) (pos j)) colour a b
unfolding covers_square
filled-square square columns rows colour a b area across down f =
    filled-within (is_in_box columns rows) (λ i j. covers_square square (pos i) (pos j)) colour a b area (λ i j column row. rw (across i column, down j row) refl) f
