-- Rows in which a segment comes near to no pixel from the first column to the last.
use Rattle.std.proofs.Common.{◌≡◌, ℕ, ◌*◌, ◌≤◌, Bool, true, false, ◌&&◌, refl, sym, arith}
use Rattle.std.proofs.lemmas.Bool.{and_left, and_parts, and_right}
use Rattle.std.proofs.lemmas.Int.{int_max_is, int_min_is, ints}
use Rattle.std.specs.Int.{int_max, int_min}
use Rattle.std.specs.Prelude.{int_le, int_lt}
use lib.IntN.{ℤ, pos, neg_ℤ, ◌+ℤ◌, ◌-ℤ◌, ◌*ℤ◌}
use lib.Signed.{◌<ℤ◌, ◌≤ℤ◌}
use Rattle.geom.specs.Device.{centre, pixel_centre}
use Rattle.geom.specs.Edge.{EdgeEnds, high_end, low_end, rise, run}
use Rattle.geom.specs.Range.{IsBelow}
use Rattle.geom.proofs.Products.{le_of, mul-comm, not_le_of, product_nonneg, product_nonpos, sub-mul}
use Rattle.strokes.specs.Segment.{covers_by_rows, is_between, is_near, right_of, turned}
use Rattle.strokes.proofs.Nearness.{right-across}
use Rattle.strokes.proofs.Sequences.{rise-least}

-- where the least and the greatest number pass no test, one between them doesn't
pub near-none : (b r least most : ℤ) → least ≤ℤ r → r ≤ℤ most → (int_lt (neg_ℤ b) (pos 2 *ℤ most) && int_le (pos 2 *ℤ least) b) ≡ false →
    (int_lt (neg_ℤ b) (pos 2 *ℤ r) && int_le (pos 2 *ℤ r) b) ≡ false
near-none b r least most p q h = go (int_lt (neg_ℤ b) (pos 2 *ℤ most)) refl
  where
    go : (t : Bool) → int_lt (neg_ℤ b) (pos 2 *ℤ most) ≡ t → (int_lt (neg_ℤ b) (pos 2 *ℤ r) && int_le (pos 2 *ℤ r) b) ≡ false
    go false e = and_left (int_lt (neg_ℤ b) (pos 2 *ℤ r)) (int_le (pos 2 *ℤ r) b) (sym (omega (arith, ints)))
    go true e =
        let over : int_le (pos 2 *ℤ least) b ≡ false = rw e at h in
        and_right (int_lt (neg_ℤ b) (pos 2 *ℤ r)) (int_le (pos 2 *ℤ r) b) (sym (omega (arith, ints)))

-- further right of a line at one height
right-grows : (e : EdgeEnds) (a b y : ℤ) → a ≤ℤ b → right_of e (record { x = a; y = y }) ≤ℤ right_of e (record { x = b; y = y })
right-grows e a b y h =
    go ((a -ℤ (low_end e).x) *ℤ rise e) ((b -ℤ (low_end e).x) *ℤ rise e) ((y -ℤ (low_end e).y) *ℤ run e)
    (sub-mul (b -ℤ (low_end e).x) (a -ℤ (low_end e).x) (rise e))
    (product_nonneg (b -ℤ (low_end e).x -ℤ (a -ℤ (low_end e).x)) (rise e) (omega (arith, ints)) (rise-least e))
  where
    go : (u v d : ℤ) → {w : ℤ} → w ≡ v -ℤ u → pos 0 ≤ℤ w → (u -ℤ d) ≤ℤ (v -ℤ d)
    go u v d e p = omega (arith, ints)

-- what a steep segment covers of a row is near to it between the first column and the last
pub steep-none : (w : ℕ) (e : EdgeEnds) (i j last : ℕ) → i ≤ last →
    (is_between e (centre (pos j)) && (int_lt (neg_ℤ (pos (16 * w) *ℤ rise e)) (pos 2 *ℤ right_of e (pixel_centre (pos last) (pos j)))
    && int_le (pos 2 *ℤ right_of e (pixel_centre (pos 0) (pos j))) (pos (16 * w) *ℤ rise e))) ≡ false →
    covers_by_rows w e (pixel_centre (pos i) (pos j)) ≡ false
steep-none w e i j last most h = go (is_between e (centre (pos j))) refl
  where
    go : (t : Bool) → is_between e (centre (pos j)) ≡ t → covers_by_rows w e (pixel_centre (pos i) (pos j)) ≡ false
    go false out = and_left (is_between e (centre (pos j))) (is_near w e (pixel_centre (pos i) (pos j))) out
    go true in_between = and_right (is_between e (centre (pos j))) (is_near w e (pixel_centre (pos i) (pos j)))
        (near-none (pos (16 * w) *ℤ rise e) (right_of e (pixel_centre (pos i) (pos j))) (right_of e (pixel_centre (pos 0) (pos j))) (right_of e (pixel_centre (pos last) (pos j)))
        (right-grows e (centre (pos 0)) (centre (pos i)) (centre (pos j)) (omega (arith, ints)))
        (right-grows e (centre (pos i)) (centre (pos last)) (centre (pos j)) (omega (arith, ints)))
        (rw in_between at h))

-- how far right of a line a point lies is between how far two others do, above and below it
right-between : (e : EdgeEnds) (x y from to least most : ℤ) → from ≤ℤ y → y ≤ℤ to →
    least ≤ℤ right_of e (record { x = x; y = from }) → least ≤ℤ right_of e (record { x = x; y = to }) →
    right_of e (record { x = x; y = from }) ≤ℤ most → right_of e (record { x = x; y = to }) ≤ℤ most →
    (least ≤ℤ right_of e (record { x = x; y = y })) × (right_of e (record { x = x; y = y }) ≤ℤ most)
right-between e x y from to least most p q a b c d = by (int_le (pos 0) (run e)) refl
  where
    rising : (u s t v w z : ℤ) → v ≡ s -ℤ u → w ≡ t -ℤ s → pos 0 ≤ℤ v → pos 0 ≤ℤ w → least ≤ℤ (z -ℤ t) → (z -ℤ u) ≤ℤ most → (least ≤ℤ (z -ℤ s)) × ((z -ℤ s) ≤ℤ most)
    rising u s t v w z e f g h k l = (omega (arith, ints), omega (arith, ints))

    falling : (u s t v w z : ℤ) → v ≡ s -ℤ u → w ≡ t -ℤ s → v ≤ℤ pos 0 → w ≤ℤ pos 0 → least ≤ℤ (z -ℤ u) → (z -ℤ t) ≤ℤ most → (least ≤ℤ (z -ℤ s)) × ((z -ℤ s) ≤ℤ most)
    falling u s t v w z e f g h k l = (omega (arith, ints), omega (arith, ints))

    below : (m n : ℤ) → pos 0 ≤ℤ m → n ≤ℤ pos 0 → (m *ℤ n) ≤ℤ pos 0
    below m n g h = rw (mul-comm m n) (product_nonpos n m h g)

    by : (t : Bool) → int_le (pos 0) (run e) ≡ t → (least ≤ℤ right_of e (record { x = x; y = y })) × (right_of e (record { x = x; y = y }) ≤ℤ most)
    by true h =
        let u = from -ℤ (low_end e).y in
        let s = y -ℤ (low_end e).y in
        let t = to -ℤ (low_end e).y in
        rising (u *ℤ run e) (s *ℤ run e) (t *ℤ run e) ((s -ℤ u) *ℤ run e) ((t -ℤ s) *ℤ run e) ((x -ℤ (low_end e).x) *ℤ rise e)
        (sub-mul s u (run e)) (sub-mul t s (run e))
        (product_nonneg (s -ℤ u) (run e) (omega (arith, ints)) (le_of (pos 0) (run e) h))
        (product_nonneg (t -ℤ s) (run e) (omega (arith, ints)) (le_of (pos 0) (run e) h)) b c
    by false h =
        let u = from -ℤ (low_end e).y in
        let s = y -ℤ (low_end e).y in
        let t = to -ℤ (low_end e).y in
        let left : run e ≤ℤ pos 0 = before (run e) (not_le_of (pos 0) (run e) h) in
        falling (u *ℤ run e) (s *ℤ run e) (t *ℤ run e) ((s -ℤ u) *ℤ run e) ((t -ℤ s) *ℤ run e) ((x -ℤ (low_end e).x) *ℤ rise e)
        (sub-mul s u (run e)) (sub-mul t s (run e))
        (below (s -ℤ u) (run e) (omega (arith, ints)) left)
        (below (t -ℤ s) (run e) (omega (arith, ints)) left) a d
      where
        before : (z : ℤ) → z <ℤ pos 0 → z ≤ℤ pos 0
        before z k = omega (arith, ints)

-- what a flat segment, turned, covers of a row is near to it in some column
pub flat-none : (w : ℕ) (e : EdgeEnds) (i j : ℕ) (from to least most : ℤ) →
    ((low_end e).y ≤ℤ centre (pos i) → from ≤ℤ centre (pos i)) → (centre (pos i) ≤ℤ (high_end e).y → centre (pos i) ≤ℤ to) →
    least ≤ℤ right_of e (record { x = centre (pos 0); y = from }) → least ≤ℤ right_of e (record { x = centre (pos 0); y = to }) →
    right_of e (record { x = centre (pos 0); y = from }) ≤ℤ most → right_of e (record { x = centre (pos 0); y = to }) ≤ℤ most →
    (int_lt (neg_ℤ (pos (16 * w) *ℤ rise e)) (pos 2 *ℤ (pos j *ℤ (pos 16 *ℤ rise e) +ℤ most))
    && int_le (pos 2 *ℤ (pos j *ℤ (pos 16 *ℤ rise e) +ℤ least)) (pos (16 * w) *ℤ rise e)) ≡ false →
    covers_by_rows w e (turned (pixel_centre (pos i) (pos j))) ≡ false
flat-none w e i j from to least most f g a b c d h = go (is_between e (centre (pos i))) refl
  where
    further : ℤ
    further = pos j *ℤ (pos 16 *ℤ rise e)

    up : (m n z : ℤ) → m ≤ℤ n → further +ℤ n ≡ z → (further +ℤ m) ≤ℤ z
    up m n z p q = rw (← q) (plus further p)
      where
        plus : (k : ℤ) → m ≤ℤ n → (k +ℤ m) ≤ℤ (k +ℤ n)
        plus k r = omega (arith, ints)

    down : (m n z : ℤ) → n ≤ℤ m → further +ℤ n ≡ z → z ≤ℤ (further +ℤ m)
    down m n z p q = rw (← q) (plus further p)
      where
        plus : (k : ℤ) → n ≤ℤ m → (k +ℤ n) ≤ℤ (k +ℤ m)
        plus k r = omega (arith, ints)

    go : (t : Bool) → is_between e (centre (pos i)) ≡ t → covers_by_rows w e (turned (pixel_centre (pos i) (pos j))) ≡ false
    go false out = and_left (is_between e (centre (pos i))) (is_near w e (turned (pixel_centre (pos i) (pos j)))) out
    go true in_between =
        let ends = and_parts (int_le (low_end e).y (centre (pos i))) (int_le (centre (pos i)) (high_end e).y) in_between in
        let near = right-between e (centre (pos j)) (centre (pos i)) from to (further +ℤ least) (further +ℤ most)
        (f (le_of (low_end e).y (centre (pos i)) ends.0)) (g (le_of (centre (pos i)) (high_end e).y ends.1))
        (up least (right_of e (record { x = centre (pos 0); y = from })) (right_of e (record { x = centre (pos j); y = from })) a (right-across e (pos j) from))
        (up least (right_of e (record { x = centre (pos 0); y = to })) (right_of e (record { x = centre (pos j); y = to })) b (right-across e (pos j) to))
        (down most (right_of e (record { x = centre (pos 0); y = from })) (right_of e (record { x = centre (pos j); y = from })) c (right-across e (pos j) from))
        (down most (right_of e (record { x = centre (pos 0); y = to })) (right_of e (record { x = centre (pos j); y = to })) d (right-across e (pos j) to)) in
        and_right (is_between e (centre (pos i))) (is_near w e (turned (pixel_centre (pos i) (pos j))))
        (near-none (pos (16 * w) *ℤ rise e) (right_of e (turned (pixel_centre (pos i) (pos j)))) (further +ℤ least) (further +ℤ most) near.0 near.1 h)

-- where no column lies between the ends of a flat segment, turned, it covers no pixel
pub flat-beside : (w : ℕ) (e : EdgeEnds) (i j : ℕ) → ((low_end e).y ≤ℤ centre (pos i) → (high_end e).y <ℤ centre (pos i)) →
    covers_by_rows w e (turned (pixel_centre (pos i) (pos j))) ≡ false
flat-beside w e i j f = go (is_between e (centre (pos i))) refl
  where
    go : (t : Bool) → is_between e (centre (pos i)) ≡ t → covers_by_rows w e (turned (pixel_centre (pos i) (pos j))) ≡ false
    go false out = and_left (is_between e (centre (pos i))) (is_near w e (turned (pixel_centre (pos i) (pos j)))) out
    go true in_between =
        let ends = and_parts (int_le (low_end e).y (centre (pos i))) (int_le (centre (pos i)) (high_end e).y) in_between in
        absurd (omega (arith, ints, f (le_of (low_end e).y (centre (pos i)) ends.0), le_of (centre (pos i)) (high_end e).y ends.1))

-- the greater of two numbers is as big as one of them, and the less
pub greater-below : (n : ℕ) (a b : ℤ) → IsBelow n a → IsBelow n b → IsBelow n (int_max a b)
greater-below n a b p q = record { above = omega (arith, ints, int_max_is a b, p.above, q.above); below = omega (arith, ints, int_max_is a b, p.below, q.below) }

pub less-below : (n : ℕ) (a b : ℤ) → IsBelow n a → IsBelow n b → IsBelow n (int_min a b)
less-below n a b p q = record { above = omega (arith, ints, int_min_is a b, p.above, q.above); below = omega (arith, ints, int_min_is a b, p.below, q.below) }

-- a number from the lower end and from 8 on is from the greater one of both on
pub from-both : (low z : ℤ) → low ≤ℤ z → pos 8 ≤ℤ z → int_max low (pos 8) ≤ℤ z
from-both low z p q = omega (arith, ints, int_max_is low (pos 8))

-- one up to both others is up to the less of both
pub to-both : (high last z : ℤ) → z ≤ℤ high → z ≤ℤ last → z ≤ℤ int_min high last
to-both high last z p q = omega (arith, ints, int_min_is high last)

-- where the less of both comes before the greater one, what is from the lower end on is past the other end
pub past-both : (low high last z : ℤ) → int_lt (int_min high last) (int_max low (pos 8)) ≡ true → low ≤ℤ z → pos 8 ≤ℤ z → z ≤ℤ last → high <ℤ z
past-both low high last z e p q r = omega (arith, ints, int_max_is low (pos 8), int_min_is high last)
