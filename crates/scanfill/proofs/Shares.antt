-- Each edge counts for a pixel by its class as it does by the even-odd rule.
use Rattle.std.proofs.Common.{◌≡◌, ◌∙◌, ℕ, ◌+◌, ◌<◌, Bool, true, false, ◌&&◌, cond, List, [], ◌∷◌, refl, sym, ap, arith, ⊎_elim}
use Rattle.std.proofs.lemmas.Bool.{and_left, and_parts, lt-ltb}
use Rattle.std.proofs.lemmas.Int.{ints}
use Rattle.std.proofs.lemmas.List.Sums.{sum_by-cons}
use Rattle.std.specs.List.{count_by}
use Rattle.std.specs.Prelude.{int_le, int_lt}
use lib.IntN.{pos, ◌-ℤ◌}
use Rattle.geom.specs.Device.{centre, pixel_centre}
use Rattle.geom.specs.Edge.{EdgeEnds, low_end, high_end, crosses_at_or_left, meets_at_or_left}
use Rattle.geom.specs.EvenOdd.{edges, is_odd}
use Rattle.clip.specs.EdgeClass.{AreRowsOf, IsClass, class_of, crosses_row, has_row, is_left_of_view, is_right_of_view, rows_of}
use Rattle.clip.specs.declared.class.EdgeClass.{EdgeClass}
use Rattle.clip.specs.declared.class.EdgeClass.TheVariants as class
use Rattle.clip.specs.declared.rows.RowRange.{RowRange}
use Rattle.clip.proofs.Cases.{IsClass-class_of}
use Rattle.clip.proofs.Rowed.{rows_of-all}
use Rattle.clip.proofs.Sides.{left-crosses, right-crosses}
use Rattle.scanfill.specs.Column.{column_of}
use Rattle.scanfill.specs.Law.{AreRunsInside, counts_left, counts_walked, is_left_in_row, is_walked_in_row}
use Rattle.scanfill.proofs.Columns.{crosses-from}

-- the rows of an edge in the view are those that it crosses
pub row-crossed : (e : EdgeEnds) (h j : ℕ) (rows : RowRange) → AreRowsOf e h rows → j < h → has_row rows j ≡ crosses_row e j
row-crossed e h j rows r below = rw (lt-ltb j h below) at (r.all j)

-- an edge counts for no pixel of the other rows
pub row-missed : (e : EdgeEnds) (h i j : ℕ) → j < h → has_row (rows_of e h) j ≡ false → crosses_at_or_left (pixel_centre (pos i) (pos j)) e ≡ false
row-missed e h i j below out =
    and_left (crosses_row e j) (meets_at_or_left (pixel_centre (pos i) (pos j)) e) (rw (lt-ltb j h below) at (sym (rows_of-all e h j) ∙ out))

-- a dropped edge counts for no pixel
pub drop-share : (e : EdgeEnds) (w h i j : ℕ) → IsClass e w h class.Drop → i < w → j < h → crosses_at_or_left (pixel_centre (pos i) (pos j)) e ≡ false
drop-share e w h i j is column row = ⊎_elim
    (λ (none : (j : ℕ) → j < h → crosses_row e j ≡ false). and_left (crosses_row e j) (meets_at_or_left (pixel_centre (pos i) (pos j)) e) (none j row))
    (λ (right : is_right_of_view e w ≡ true).
    let both = and_parts (int_lt (centre (pos w -ℤ pos 1)) (low_end e).x) (int_lt (centre (pos w -ℤ pos 1)) (high_end e).x) right in
    right-crosses e (pixel_centre (pos i) (pos j)) (omega (arith, ints, both.0)) (omega (arith, ints, both.1)))
    is

-- one left of the view counts for each pixel of its rows
pub left-share : (e : EdgeEnds) (h i j : ℕ) (rows : RowRange) → AreRowsOf e h rows → is_left_of_view e ≡ true → j < h →
    crosses_at_or_left (pixel_centre (pos i) (pos j)) e ≡ has_row rows j
left-share e h i j rows r left row =
    let both = and_parts (int_le (low_end e).x (centre (pos 0))) (int_le (high_end e).x (centre (pos 0))) left in
    left-crosses e (pixel_centre (pos i) (pos j)) (omega (arith, ints, both.0)) (omega (arith, ints, both.1))
    ∙ sym (row-crossed e h j rows r row)

-- one that is walked counts for those of its rows from its column on
pub walk-share : (e : EdgeEnds) (h i j : ℕ) (rows : RowRange) → AreRowsOf e h rows → j < h →
    crosses_at_or_left (pixel_centre (pos i) (pos j)) e ≡ (has_row rows j && int_le (column_of e j) (pos i))
walk-share e h i j rows r row = rw (row-crossed e h j rows r row) (go (crosses_row e j) refl)
  where
    go : (t : Bool) → crosses_row e j ≡ t → crosses_at_or_left (pixel_centre (pos i) (pos j)) e ≡ (t && int_le (column_of e j) (pos i))
    go true crosses = crosses-from e j (pos i) crosses
    go false misses = and_left (crosses_row e j) (meets_at_or_left (pixel_centre (pos i) (pos j)) e) misses

-- the share of one edge
one : (b : Bool) → cond b 1 0 ≡ cond b 1 0 + 0
one b = omega arith

share-of : (e : EdgeEnds) (w h i j : ℕ) (c : EdgeClass) → IsClass e w h c → i < w → j < h →
    cond (crosses_at_or_left (pixel_centre (pos i) (pos j)) e) 1 0
    ≡ cond (is_left_in_row c j) 1 0 + cond (is_walked_in_row c j && int_le (column_of e j) (pos i)) 1 0
share-of e w h i j class.Drop is column row = rw (drop-share e w h i j is column row)
share-of e w h i j (class.LeftOfView rows) is column row = rw (left-share e h i j rows is.0 is.2 row) (one (has_row rows j))
share-of e w h i j (class.Walk rows) is column row = rw (walk-share e h i j rows is.0 row) (omega arith)

pub share : (e : EdgeEnds) (w h i j : ℕ) → i < w → j < h →
    cond (crosses_at_or_left (pixel_centre (pos i) (pos j)) e) 1 0 ≡ cond (counts_left w h j e) 1 0 + cond (counts_walked w h i j e) 1 0
share e w h i j = share-of e w h i j (class_of e w h) (IsClass-class_of e w h)

-- the shares of all
pub shares : (w h i j : ℕ) → i < w → j < h → (es : List EdgeEnds) →
    count_by (crosses_at_or_left (pixel_centre (pos i) (pos j))) es ≡ count_by (counts_left w h j) es + count_by (counts_walked w h i j) es
shares w h i j column row [] = refl
shares w h i j column row (e ∷ es) =
    rw (
      sum_by-cons (λ x. cond (crosses_at_or_left (pixel_centre (pos i) (pos j)) x) 1 0) e es,
      sum_by-cons (λ x. cond (counts_left w h j x) 1 0) e es,
      sum_by-cons (λ x. cond (counts_walked w h i j x) 1 0) e es,
    ) (omega (arith, share e w h i j column row, shares w h i j column row es))

-- the law
pub runs-inside : AreRunsInside
runs-inside rings w h i j column row = ap is_odd (shares w h i j column row (edges rings))
