-- Strips of pixels that are filled.
use Rattle.std.proofs.Common.{◌≡◌, ◌∙◌, ℕ, ◌+◌, ◌*◌, ◌<◌, ◌≤◌, Bool, true, false, ◌&&◌, ◌||◌, length, Option, refl, sym, ap, arith, ⊎_elim}
use Rattle.std.proofs.lemmas.Bool.{and_left, and_right, cases_lt, le-leb, le-ltb, leb-true, lt-leb, lt-ltb}
use Rattle.std.specs.Prelude.{nat_le, nat_lt}
use lib.IntN.{pos}
use Rattle.geom.specs.Device.{DevicePoint, centre, pixel_centre}
use Rattle.geom.specs.Edge.{EdgeEnds}
use Rattle.mapdefs.specs.declared.colour.Rgb.{Rgb}
use Rattle.mapdefs.specs.declared.picture.PictureFields.{PictureFields}
use Rattle.scanfill.specs.Runs.{has_column}
use Rattle.scanfill.specs.declared.span.Span.{Span}
use Rattle.strokes.proofs.Marking.{no-column}
use Rattle.strokes.specs.Segment.{SegmentValue, covers_by_rows, covers_segment, is_between, is_near, is_steep, turned, turned_edge}
use Rattle.canvas.specs.Painted.{IsFilled}
use Rattle.canvas.proofs.Filling.{filled-either, filled-nothing, filled-same, filled-within}
use Rattle.canvas.proofs.Boxing.{is_in_box}

-- what a strip covers in its rows from one to before another, and of a turned one in its columns
abbrev pub is_down : SegmentValue → ℕ → ℕ → ℕ → ℕ → Bool
is_down strip from past i j = has_column (record { from = from; to = past }) j && is_near strip.width strip.edge (pixel_centre (pos i) (pos j))

abbrev pub is_across : SegmentValue → ℕ → ℕ → ℕ → ℕ → Bool
is_across strip from past i j = has_column (record { from = from; to = past }) i && is_near strip.width strip.edge (turned (pixel_centre (pos i) (pos j)))

-- no row yet
pub none-yet : (from j : ℕ) (t : Bool) → false ≡ (has_column (record { from = from; to = from }) j && t)
none-yet from j t = sym (and_left (has_column (record { from = from; to = from }) j) t (empty (nat_le from j) refl))
  where
    empty : (u : Bool) → nat_le from j ≡ u → (nat_le from j && nat_lt j from) ≡ false
    empty true e = and_right (nat_le from j) (nat_lt j from) (le-ltb j from (leb-true from j e))
    empty false e = and_left (nat_le from j) (nat_lt j from) e

-- one row more
pub one-more : (from row j : ℕ) (near here : Bool) → from ≤ row → (j ≡ row → here ≡ near) →
    ((has_column (record { from = from; to = row }) j && near) || (here && has_column (record { from = row; to = row + 1 }) j)) ≡ (has_column (record { from = from; to = row + 1 }) j && near)
one-more from row j near here least same = ⊎_elim
    (λ (before : j < row). rw (
      lt-ltb j row before,
      lt-ltb j (row + 1) (omega arith),
      lt-leb row j before,
    ) (drop here ((nat_le from j && true) && near)))
    (λ (ge : row ≤ j). ⊎_elim
    (λ (at : j < row + 1). rw (
      le-ltb j row ge,
      lt-ltb j (row + 1) at,
      le-leb row j ge,
      le-leb from j (omega arith),
      same (omega arith),
    ) (take near))
    (λ (after : row + 1 ≤ j). rw (
      le-ltb j row ge,
      le-ltb j (row + 1) after,
    ) (nothing (nat_le from j) (nat_le row j) near here))
    (cases_lt j (row + 1)))
    (cases_lt j row)
  where
    drop : (h t : Bool) → (t || (h && (false && true))) ≡ t
    drop true true = refl
    drop true false = refl
    drop false true = refl
    drop false false = refl

    take : (n : Bool) → (((true && false) && n) || (n && (true && true))) ≡ ((true && true) && n)
    take true = refl
    take false = refl

    nothing : (f r n h : Bool) → (((f && false) && n) || (h && (r && false))) ≡ ((f && false) && n)
    nothing true true n true = refl
    nothing true true n false = refl
    nothing true false n true = refl
    nothing true false n false = refl
    nothing false true n true = refl
    nothing false true n false = refl
    nothing false false n true = refl
    nothing false false n false = refl

pub down-next : (strip : SegmentValue) (colour : ℕ → ℕ → Option Rgb) (from row : ℕ) (span : Span) (a b c : PictureFields) → from ≤ row → length a.pixels ≡ a.width * a.height →
    ((i : ℕ) → i < a.width → has_column span i ≡ is_near strip.width strip.edge (pixel_centre (pos i) (pos row))) →
    IsFilled (is_down strip from row) colour a b → IsFilled (is_in_box span (record { from = row; to = row + 1 })) colour b c → IsFilled (is_down strip from (row + 1)) colour a c
down-next strip colour from row span a b c least area all f g =
    filled-within (λ i j. is_down strip from row i j || is_in_box span (record { from = row; to = row + 1 }) i j) (is_down strip from (row + 1)) colour a c area
    (λ i j column below. one-more from row j (is_near strip.width strip.edge (pixel_centre (pos i) (pos j))) (has_column span i) least
    (λ e. all i column ∙ ap (λ n. is_near strip.width strip.edge (pixel_centre (pos i) (pos n))) (sym e)))
    (filled-either (is_down strip from row) (is_in_box span (record { from = row; to = row + 1 })) colour a b c f g)

and-turn : (s t : Bool) → (s && t) ≡ (t && s)
and-turn true true = refl
and-turn true false = refl
and-turn false true = refl
and-turn false false = refl

pub across-next : (strip : SegmentValue) (colour : ℕ → ℕ → Option Rgb) (from column : ℕ) (span : Span) (a b c : PictureFields) → from ≤ column → length a.pixels ≡ a.width * a.height →
    ((j : ℕ) → j < a.height → has_column span j ≡ is_near strip.width strip.edge (pixel_centre (pos j) (pos column))) →
    IsFilled (is_across strip from column) colour a b → IsFilled (is_in_box (record { from = column; to = column + 1 }) span) colour b c → IsFilled (is_across strip from (column + 1)) colour a c
across-next strip colour from column span a b c least area all f g =
    filled-within (λ i j. is_across strip from column i j || is_in_box (record { from = column; to = column + 1 }) span i j) (is_across strip from (column + 1)) colour a c area
    (λ i j left below.
    ap (λ t. is_across strip from column i j || t) (and-turn (has_column (record { from = column; to = column + 1 }) i) (has_column span j))
    ∙ one-more from column i (is_near strip.width strip.edge (turned (pixel_centre (pos i) (pos j)))) (has_column span j) least
    (λ e. all j below ∙ ap (λ n. is_near strip.width strip.edge (pixel_centre (pos j) (pos n))) (sym e)))
    (filled-either (is_across strip from column) (is_in_box (record { from = column; to = column + 1 }) span) colour a b c f g)

-- no row is filled yet
pub down-none : (strip : SegmentValue) (colour : ℕ → ℕ → Option Rgb) (from : ℕ) (a : PictureFields) → IsFilled (is_down strip from from) colour a a
down-none strip colour from a = filled-same (λ i j. false) (is_down strip from from) colour a a
    (λ i j. none-yet from j (is_near strip.width strip.edge (pixel_centre (pos i) (pos j)))) (filled-nothing colour a)

pub across-none : (strip : SegmentValue) (colour : ℕ → ℕ → Option Rgb) (from : ℕ) (a : PictureFields) → IsFilled (is_across strip from from) colour a a
across-none strip colour from a = filled-same (λ i j. false) (is_across strip from from) colour a a
    (λ i j. none-yet from i (is_near strip.width strip.edge (turned (pixel_centre (pos i) (pos j))))) (filled-nothing colour a)

-- all rows between the ends are filled
same-past : (rows : Span) (past j : ℕ) → rows.to ≤ past → past ≤ rows.to → has_column (record { from = rows.from; to = past }) j ≡ has_column rows j
same-past rows past j a b = let e : past ≡ rows.to = omega arith in rw e refl

pub down-all : (strip : SegmentValue) (colour : ℕ → ℕ → Option Rgb) (rows : Span) (past : ℕ) (a b : PictureFields) → rows.to ≤ past → past ≤ rows.to → length a.pixels ≡ a.width * a.height →
    ((j : ℕ) → j < a.height → has_column rows j ≡ is_between strip.edge (centre (pos j))) → IsFilled (is_down strip rows.from past) colour a b →
    IsFilled (λ i j. covers_by_rows strip.width strip.edge (pixel_centre (pos i) (pos j))) colour a b
down-all strip colour rows past a b most last area all f =
    filled-within (is_down strip rows.from past) (λ i j. covers_by_rows strip.width strip.edge (pixel_centre (pos i) (pos j))) colour a b area
    (λ i j column row. ap (λ t. t && is_near strip.width strip.edge (pixel_centre (pos i) (pos j))) (same-past rows past j most last ∙ all j row)) f

pub across-all : (strip : SegmentValue) (colour : ℕ → ℕ → Option Rgb) (columns : Span) (past : ℕ) (a b : PictureFields) → columns.to ≤ past → past ≤ columns.to → length a.pixels ≡ a.width * a.height →
    ((i : ℕ) → i < a.width → has_column columns i ≡ is_between strip.edge (centre (pos i))) → IsFilled (is_across strip columns.from past) colour a b →
    IsFilled (λ i j. covers_by_rows strip.width strip.edge (turned (pixel_centre (pos i) (pos j)))) colour a b
across-all strip colour columns past a b most last area all f =
    filled-within (is_across strip columns.from past) (λ i j. covers_by_rows strip.width strip.edge (turned (pixel_centre (pos i) (pos j)))) colour a b area
    (λ i j column row. ap (λ t. t && is_near strip.width strip.edge (turned (pixel_centre (pos i) (pos j)))) (same-past columns past i most last ∙ all i column)) f

-- there is no row between them
pub down-empty : (strip : SegmentValue) (colour : ℕ → ℕ → Option Rgb) (rows : Span) (a : PictureFields) → rows.to ≤ rows.from → length a.pixels ≡ a.width * a.height →
    ((j : ℕ) → j < a.height → has_column rows j ≡ is_between strip.edge (centre (pos j))) →
    IsFilled (λ i j. covers_by_rows strip.width strip.edge (pixel_centre (pos i) (pos j))) colour a a
down-empty strip colour rows a none area all =
    filled-within (λ i j. false) (λ i j. covers_by_rows strip.width strip.edge (pixel_centre (pos i) (pos j))) colour a a area
    (λ i j column row. sym (and_left (is_between strip.edge (centre (pos j))) (is_near strip.width strip.edge (pixel_centre (pos i) (pos j))) (sym (all j row) ∙ no-column rows j none)))
    (filled-nothing colour a)

pub across-empty : (strip : SegmentValue) (colour : ℕ → ℕ → Option Rgb) (columns : Span) (a : PictureFields) → columns.to ≤ columns.from → length a.pixels ≡ a.width * a.height →
    ((i : ℕ) → i < a.width → has_column columns i ≡ is_between strip.edge (centre (pos i))) →
    IsFilled (λ i j. covers_by_rows strip.width strip.edge (turned (pixel_centre (pos i) (pos j)))) colour a a
across-empty strip colour columns a none area all =
    filled-within (λ i j. false) (λ i j. covers_by_rows strip.width strip.edge (turned (pixel_centre (pos i) (pos j)))) colour a a area
    (λ i j column row. sym (and_left (is_between strip.edge (centre (pos i))) (is_near strip.width strip.edge (turned (pixel_centre (pos i) (pos j)))) (sym (all i column) ∙ no-column columns i none)))
    (filled-nothing colour a)

-- a segment covers by its rows where it is steep, else by its columns
pub steep-segment : (w : ℕ) (e : EdgeEnds) (p : DevicePoint) → is_steep e ≡ true → covers_by_rows w e p ≡ covers_segment w e p
unfolding covers_segment
steep-segment w e p h = rw h refl

pub flat-segment : (w : ℕ) (e : EdgeEnds) (p : DevicePoint) → is_steep e ≡ false → covers_by_rows w (turned_edge e) (turned p) ≡ covers_segment w e p
unfolding covers_segment
flat-segment w e p h = rw h refl

pub filled-steep : (w : ℕ) (e : EdgeEnds) (colour : ℕ → ℕ → Option Rgb) (strip : SegmentValue) (a b : PictureFields) → strip ≡ record { edge = e; width = w } → is_steep e ≡ true →
    IsFilled (λ i j. covers_by_rows strip.width strip.edge (pixel_centre (pos i) (pos j))) colour a b →
    IsFilled (λ i j. covers_segment w e (pixel_centre (pos i) (pos j))) colour a b
filled-steep w e colour strip a b is steep f =
    filled-same (λ i j. covers_by_rows w e (pixel_centre (pos i) (pos j))) (λ i j. covers_segment w e (pixel_centre (pos i) (pos j))) colour a b
    (λ i j. steep-segment w e (pixel_centre (pos i) (pos j)) steep) (rw is at f)

pub filled-flat : (w : ℕ) (e : EdgeEnds) (colour : ℕ → ℕ → Option Rgb) (strip : SegmentValue) (a b : PictureFields) → strip ≡ record { edge = turned_edge e; width = w } → is_steep e ≡ false →
    IsFilled (λ i j. covers_by_rows strip.width strip.edge (turned (pixel_centre (pos i) (pos j)))) colour a b →
    IsFilled (λ i j. covers_segment w e (pixel_centre (pos i) (pos j))) colour a b
filled-flat w e colour strip a b is flat f =
    filled-same (λ i j. covers_by_rows w (turned_edge e) (turned (pixel_centre (pos i) (pos j)))) (λ i j. covers_segment w e (pixel_centre (pos i) (pos j))) colour a b
    (λ i j. flat-segment w e (pixel_centre (pos i) (pos j)) flat) (rw is at f)

pub filled-point : (w : ℕ) (e : EdgeEnds) (colour : ℕ → ℕ → Option Rgb) (a : PictureFields) → is_steep e ≡ false →
    ((p : DevicePoint) → covers_by_rows w (turned_edge e) p ≡ false) → IsFilled (λ i j. covers_segment w e (pixel_centre (pos i) (pos j))) colour a a
filled-point w e colour a flat none =
    filled-same (λ i j. false) (λ i j. covers_segment w e (pixel_centre (pos i) (pos j))) colour a a
    (λ i j. sym (none (turned (pixel_centre (pos i) (pos j)))) ∙ flat-segment w e (pixel_centre (pos i) (pos j)) flat) (filled-nothing colour a)
