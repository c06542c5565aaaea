-- Filling the rows of a polygon by a sweep.
use Rattle.std.proofs.Common.{Option, Some, ◌≡◌, ◌∙◌, ℕ, ◌+◌, ◌*◌, ◌/◌, ◌%◌, ◌<◌, ◌≤◌, min, Bool, true, false, nat_lt, List, length, refl, sym, ap, arith}
use Rattle.std.proofs.lemmas.Bool.{ltb-false, ltb-true}
use Rattle.std.proofs.lemmas.Nat.{div_below, mod_below}
use lib.IntN.{pos}
use Rattle.geom.specs.Device.{pixel_centre}
use Rattle.geom.specs.Edge.{EdgeEnds}
use Rattle.geom.specs.EvenOdd.{is_covered}
use Rattle.mapdefs.specs.declared.colour.Rgb.{Rgb}
use Rattle.mapdefs.specs.declared.picture.PictureFields.{PictureFields}
use Rattle.scanfill.specs.Runs.{AreRunsFrom, is_in_spans}
use Rattle.scanfill.specs.Sweep.{AreEmptyRows, SweepValue, covers_next}
use Rattle.scanfill.specs.declared.span.Span.{Span}
use Rattle.canvas.specs.Painted.{HasRowsFilled, IsFilled}
use Rattle.canvas.proofs.Filling.{filled-runs, rows-more, some-columns}

-- the pixel in a column and a row lies inside of the polygon
abbrev pub inside_of : List EdgeEnds → ℕ → ℕ → Bool
inside_of polygon i j = is_covered polygon (pixel_centre (pos i) (pos j))

-- one colour for all pixels
abbrev pub one_colour : Rgb → ℕ → ℕ → Option Rgb
one_colour colour i j = Some colour

-- its runs are those of the polygon on that many columns
pub runs-inside : (old skipped : SweepValue) (width : ℕ) (runs : List Span) → old.width ≡ width → skipped ≡ record old { row = skipped.row } →
    AreRunsFrom (covers_next skipped) 0 skipped.width runs → AreRunsFrom (λ i. inside_of old.edges i skipped.row) 0 width runs
runs-inside old skipped width runs wide skip all =
    let w : skipped.width ≡ width = ap (λ (s : SweepValue). s.width) skip ∙ wide in
    let edges : skipped.edges ≡ old.edges = ap (λ (s : SweepValue). s.edges) skip in
    rw (w, edges) at all

-- rows that a sweep has come past by a skip have no pixel of the polygon
rows-empty : (old : SweepValue) (colour : Rgb) (past : ℕ) (a : PictureFields) → length a.pixels ≡ a.width * a.height → old.width ≡ a.width → AreEmptyRows old old.row past →
    HasRowsFilled (inside_of old.edges) (one_colour colour) old.row past a a
rows-empty old colour past a area wide empty = record {
  width = refl;
  height = refl;
  area = refl;
  rows = record {
    filled = λ at h low high.
        let below : at % a.width < old.width = omega (arith, wide, mod_below at a.width (some-columns at a.width a.height (omega (arith, area)))) in
        rw (empty (at % a.width) (at / a.width) below low high) refl;
    before = λ at h low. refl;
    after = λ at h high. refl;
  };
}

-- a sweep that has come past the last row
pub rows-last : (old skipped : SweepValue) (colour : Rgb) (past : ℕ) (a : PictureFields) → length a.pixels ≡ a.width * a.height → old.width ≡ a.width → AreEmptyRows old old.row skipped.row →
    skipped ≡ record old { row = skipped.row } → skipped.row ≤ old.height → past ≡ min (skipped.row + 1) skipped.height → false ≡ nat_lt skipped.row skipped.height →
    HasRowsFilled (inside_of old.edges) (one_colour colour) old.row past a a
rows-last old skipped colour past a area wide empty skip most next last =
    let ended = ltb-false skipped.row skipped.height (sym last) in
    let is : past ≡ skipped.row = omega (arith, next, ended, most, ap (λ (s : SweepValue). s.height) skip) in
    rw is (rows-empty old colour skipped.row a area wide empty)

-- a sweep that has come past a row which its runs filled
pub rows-next : (old skipped : SweepValue) (colour : Rgb) (spans runs : List Span) (past : ℕ) (a b : PictureFields) → length a.pixels ≡ a.width * a.height → old.width ≡ a.width →
    AreEmptyRows old old.row skipped.row → skipped ≡ record old { row = skipped.row } → old.row ≤ skipped.row →
    past ≡ min (skipped.row + 1) skipped.height → true ≡ nat_lt skipped.row skipped.height → spans ≡ runs → AreRunsFrom (covers_next skipped) 0 skipped.width runs →
    HasRowsFilled (λ i k. is_in_spans spans i) (one_colour colour) skipped.row (skipped.row + 1) a b →
    HasRowsFilled (inside_of old.edges) (one_colour colour) old.row past a b
rows-next old skipped colour spans runs past a b area wide empty skip from next more read all filled =
    let below : skipped.row < skipped.height = ltb-true skipped.row skipped.height (sym more) in
    let last : past ≡ skipped.row + 1 = omega (arith, next, below) in
    let one = filled-runs (inside_of old.edges) (one_colour colour) spans runs skipped.row a b area read (runs-inside old skipped a.width runs wide skip all) filled in
    rw last (rows-more (inside_of old.edges) (one_colour colour) old.row skipped.row (skipped.row + 1) a a b from (omega arith) (rows-empty old colour skipped.row a area wide empty) one)

-- the sweep has come past the last row: all rows are filled
pub filled-all : (polygon : List EdgeEnds) (colour : Rgb) (past : ℕ) (sweep : SweepValue) (a b c : PictureFields) → length a.pixels ≡ a.width * a.height →
    sweep ≡ record { edges = polygon; width = a.width; height = a.height; row = sweep.row } → sweep.row ≤ past → past ≡ sweep.height →
    HasRowsFilled (inside_of polygon) (one_colour colour) 0 sweep.row a b → HasRowsFilled (inside_of sweep.edges) (one_colour colour) sweep.row past b c →
    IsFilled (inside_of polygon) (one_colour colour) a c
filled-all polygon colour past sweep a b c area is rising last before after =
    let rest = rw (ap (λ (s : SweepValue). s.edges) is) at after in
    let all = rows-more (inside_of polygon) (one_colour colour) 0 sweep.row past a b c (omega arith) rising before rest in
    record {
      width = all.width;
      height = all.height;
      area = all.area;
      filled = λ at h. all.rows.filled at h (omega arith)
          (omega (arith, div_below at a.width a.height (some-columns at a.width a.height (omega (arith, area))) (omega (arith, area)), last, ap (λ (s : SweepValue). s.height) is));
    }
