-- Short segments of odd widths cover nothing but what the squares round their ends cover.
use Rattle.std.proofs.Common.{◌≡◌, ◌∙◌, ℕ, ◌+◌, ◌-◌, ◌*◌, ◌/◌, Bool, true, false, ◌&&◌, ◌||◌, ◌⊎◌, inl, inr, ⊎_elim, refl, sym, arith}
use Rattle.std.proofs.lemmas.Bool.{and_from, and_parts, false≢true}
use Rattle.std.proofs.lemmas.Int.{by_lt_z, ints}
use Rattle.std.specs.Int.{int_div_euclid}
use Rattle.std.specs.Prelude.{int_le}
use lib.IntN.{ℤ, pos, ◌+ℤ◌, ◌-ℤ◌}
use lib.Signed.{◌<ℤ◌, ◌≤ℤ◌}
use Rattle.geom.proofs.Products.{is_le, le_of}
use Rattle.geom.proofs.Quotients.{quotient_parts}
use Rattle.geom.specs.Device.{DevicePoint, PixelValue, centre, pixel_centre, pixel_of}
use Rattle.geom.specs.Edge.{EdgeEnds}
use Rattle.strokes.specs.Line.{square_at}
use Rattle.strokes.specs.Segment.{covers_segment}
use Rattle.strokes.specs.Square.{covers_square, is_beside}
use Rattle.strokes.specs.Short.{ShortSegmentsAddNothing, are_close, are_neighbours}
use Rattle.strokes.proofs.Sides.{above-both, below-both, left-of-both, right-of-both}

-- a column is no further left than one of two, less half the width, and no further right than one of them and half the width
pub record IsAmong (k : ℕ) (p q z : ℤ) : Type 0 where
  pub least : ((p -ℤ pos k) ≤ℤ z) ⊎ ((q -ℤ pos k) ≤ℤ z)
  pub most : (z ≤ℤ (p +ℤ pos k)) ⊎ (z ≤ℤ (q +ℤ pos k))

-- so it lies beside one of them, where they are no further apart than the width
beside-one : (k : ℕ) (p q z : ℤ) → IsAmong k p q z → (p -ℤ pos (2 * k + 1)) ≤ℤ q → q ≤ℤ (p +ℤ pos (2 * k + 1)) →
    (((p -ℤ pos k) ≤ℤ z) × (z ≤ℤ (p +ℤ pos k))) ⊎ (((q -ℤ pos k) ≤ℤ z) × (z ≤ℤ (q +ℤ pos k)))
beside-one k p q z among near far = by_lt_z z (p -ℤ pos k)
    (λ (lt : z <ℤ (p -ℤ pos k)). inr (⊎_elim (λ (h : (p -ℤ pos k) ≤ℤ z). absurd (omega (arith, ints))) (λ (h : (q -ℤ pos k) ≤ℤ z). h) among.least, omega (arith, ints)))
    (λ (ge : (p -ℤ pos k) ≤ℤ z). by_lt_z (p +ℤ pos k) z
    (λ (lt : (p +ℤ pos k) <ℤ z). inr (omega (arith, ints), ⊎_elim (λ (h : z ≤ℤ (p +ℤ pos k)). absurd (omega (arith, ints))) (λ (h : z ≤ℤ (q +ℤ pos k)). h) among.most))
    (λ (le : z ≤ℤ (p +ℤ pos k)). inl (ge, le)))

-- on one axis: where a test fails beside both ends, what passes it is among their pixels
among : (k : ℕ) (x y z : ℤ) (t : Bool) → t ≡ true →
    ((centre z +ℤ pos (8 * (2 * k + 1))) ≤ℤ x → (centre z +ℤ pos (8 * (2 * k + 1))) ≤ℤ y → t ≡ false) →
    (x <ℤ (centre z -ℤ pos (8 * (2 * k + 1))) → y <ℤ (centre z -ℤ pos (8 * (2 * k + 1))) → t ≡ false) →
    IsAmong k (int_div_euclid x (pos 16)) (int_div_euclid y (pos 16)) z
among k x y z t passes before after =
    let p = quotient_parts x (pos 16) (omega (arith, ints)) in
    let q = quotient_parts y (pos 16) (omega (arith, ints)) in
    record {
      least = by_lt_z z (int_div_euclid x (pos 16) -ℤ pos k)
          (λ (lt : z <ℤ (int_div_euclid x (pos 16) -ℤ pos k)). by_lt_z z (int_div_euclid y (pos 16) -ℤ pos k)
          (λ (less : z <ℤ (int_div_euclid y (pos 16) -ℤ pos k)). absurd (false≢true (sym (before (omega (arith, ints, p.0, lt)) (omega (arith, ints, q.0, less))) ∙ passes)))
          (λ (ge : (int_div_euclid y (pos 16) -ℤ pos k) ≤ℤ z). inr ge))
          (λ (ge : (int_div_euclid x (pos 16) -ℤ pos k) ≤ℤ z). inl ge);
      most = by_lt_z (int_div_euclid x (pos 16) +ℤ pos k) z
          (λ (lt : (int_div_euclid x (pos 16) +ℤ pos k) <ℤ z). by_lt_z (int_div_euclid y (pos 16) +ℤ pos k) z
          (λ (less : (int_div_euclid y (pos 16) +ℤ pos k) <ℤ z). absurd (false≢true (sym (after (omega (arith, ints, p.1, lt)) (omega (arith, ints, q.1, less))) ∙ passes)))
          (λ (ge : z ≤ℤ (int_div_euclid y (pos 16) +ℤ pos k)). inr ge))
          (λ (ge : z ≤ℤ (int_div_euclid x (pos 16) +ℤ pos k)). inl ge);
    }

-- what a segment of an odd width covers is among the pixels of its ends, across and down
pub covered-among : (k : ℕ) (a b : DevicePoint) (i j : ℤ) → covers_segment (2 * k + 1) (record { from = a; to = b }) (pixel_centre i j) ≡ true →
    IsAmong k (pixel_of a).i (pixel_of b).i i × IsAmong k (pixel_of a).j (pixel_of b).j j
covered-among k a b i j covered =
    let e : EdgeEnds = record { from = a; to = b } in
    let p : DevicePoint = pixel_centre i j in (
      among k a.x b.x i (covers_segment (2 * k + 1) e p) covered (left-of-both (2 * k + 1) e p (omega arith)) (right-of-both (2 * k + 1) e p),
      among k a.y b.y j (covers_segment (2 * k + 1) e p) covered (above-both (2 * k + 1) e p (omega arith)) (below-both (2 * k + 1) e p),
    )

-- a column beside another
is-beside : (k : ℕ) (at z : ℤ) → (at -ℤ pos k) ≤ℤ z → z ≤ℤ (at +ℤ pos k) → is_beside (2 * k + 1) at z ≡ true
is-beside k at z least most =
    let low : (2 * k + 1 - 1) / 2 ≡ k = omega arith in
    let high : (2 * k + 1) / 2 ≡ k = omega arith in
    and_from (int_le (at -ℤ pos ((2 * k + 1 - 1) / 2)) z) (int_le z (at +ℤ pos ((2 * k + 1) / 2)))
    (is_le (at -ℤ pos ((2 * k + 1 - 1) / 2)) z (omega (arith, ints, low, least))) (is_le z (at +ℤ pos ((2 * k + 1) / 2)) (omega (arith, ints, high, most)))

-- a square round a pixel covers what is beside it across and down
in-square : (k : ℕ) (a : DevicePoint) (i j : ℤ) → is_beside (2 * k + 1) (pixel_of a).i i ≡ true → is_beside (2 * k + 1) (pixel_of a).j j ≡ true →
    covers_square (square_at (2 * k + 1) a) i j ≡ true
unfolding covers_square
in-square k a i j across down = and_from (is_beside (2 * k + 1) (pixel_of a).i i) (is_beside (2 * k + 1) (pixel_of a).j j) across down

or-first : (s t : Bool) → s ≡ true → (s || t) ≡ true
or-first s t h = rw h refl

or-second : (s t : Bool) → t ≡ true → (s || t) ≡ true
or-second true t h = refl
or-second false t h = h

-- what two tests joined say
pub or-cases : (s t : Bool) → (s || t) ≡ true → (s ≡ true) ⊎ (t ≡ true)
or-cases true t h = inl refl
or-cases false t h = inr h

short-odd : (k : ℕ) (a b : DevicePoint) (i j : ℤ) → are_neighbours (2 * k + 1) (pixel_of a) (pixel_of b) ≡ true →
    covers_segment (2 * k + 1) (record { from = a; to = b }) (pixel_centre i j) ≡ true →
    (covers_square (square_at (2 * k + 1) a) i j || covers_square (square_at (2 * k + 1) b) i j) ≡ true
short-odd k a b i j near covered = ⊎_elim
    (λ (h : (are_close 0 p.i q.i && are_close w p.j q.j) ≡ true).
    let both = and_parts (are_close 0 p.i q.i) (are_close w p.j q.j) h in
    let same = and_parts (int_le (p.i -ℤ pos 0) q.i) (int_le q.i (p.i +ℤ pos 0)) both.0 in
    let apart = and_parts (int_le (p.j -ℤ pos w) q.j) (int_le q.j (p.j +ℤ pos w)) both.1 in
    let column : p.i ≡ q.i = omega (arith, ints, le_of (p.i -ℤ pos 0) q.i same.0, le_of q.i (p.i +ℤ pos 0) same.1) in
    let least = ⊎_elim (λ (l : (p.i -ℤ pos k) ≤ℤ i). l) (λ (l : (q.i -ℤ pos k) ≤ℤ i). omega (arith, ints, l, column)) by.0.least in
    let most = ⊎_elim (λ (l : i ≤ℤ (p.i +ℤ pos k)). l) (λ (l : i ≤ℤ (q.i +ℤ pos k)). omega (arith, ints, l, column)) by.0.most in
    ⊎_elim
    (λ (one : ((p.j -ℤ pos k) ≤ℤ j) × (j ≤ℤ (p.j +ℤ pos k))). first (is-beside k p.i i least most) (is-beside k p.j j one.0 one.1))
    (λ (two : ((q.j -ℤ pos k) ≤ℤ j) × (j ≤ℤ (q.j +ℤ pos k))). second (is-beside k q.i i (omega (arith, ints, least, column)) (omega (arith, ints, most, column))) (is-beside k q.j j two.0 two.1))
    (beside-one k p.j q.j j by.1 (le_of (p.j -ℤ pos w) q.j apart.0) (le_of q.j (p.j +ℤ pos w) apart.1)))
    (λ (h : (are_close 0 p.j q.j && are_close w p.i q.i) ≡ true).
    let both = and_parts (are_close 0 p.j q.j) (are_close w p.i q.i) h in
    let same = and_parts (int_le (p.j -ℤ pos 0) q.j) (int_le q.j (p.j +ℤ pos 0)) both.0 in
    let apart = and_parts (int_le (p.i -ℤ pos w) q.i) (int_le q.i (p.i +ℤ pos w)) both.1 in
    let row : p.j ≡ q.j = omega (arith, ints, le_of (p.j -ℤ pos 0) q.j same.0, le_of q.j (p.j +ℤ pos 0) same.1) in
    let least = ⊎_elim (λ (l : (p.j -ℤ pos k) ≤ℤ j). l) (λ (l : (q.j -ℤ pos k) ≤ℤ j). omega (arith, ints, l, row)) by.1.least in
    let most = ⊎_elim (λ (l : j ≤ℤ (p.j +ℤ pos k)). l) (λ (l : j ≤ℤ (q.j +ℤ pos k)). omega (arith, ints, l, row)) by.1.most in
    ⊎_elim
    (λ (one : ((p.i -ℤ pos k) ≤ℤ i) × (i ≤ℤ (p.i +ℤ pos k))). first (is-beside k p.i i one.0 one.1) (is-beside k p.j j least most))
    (λ (two : ((q.i -ℤ pos k) ≤ℤ i) × (i ≤ℤ (q.i +ℤ pos k))). second (is-beside k q.i i two.0 two.1) (is-beside k q.j j (omega (arith, ints, least, row)) (omega (arith, ints, most, row))))
    (beside-one k p.i q.i i by.0 (le_of (p.i -ℤ pos w) q.i apart.0) (le_of q.i (p.i +ℤ pos w) apart.1)))
    (or-cases (are_close 0 p.i q.i && are_close w p.j q.j) (are_close 0 p.j q.j && are_close w p.i q.i) near)
  where
    w : ℕ
    w = 2 * k + 1

    p : PixelValue
    p = pixel_of a

    q : PixelValue
    q = pixel_of b

    by : IsAmong k p.i q.i i × IsAmong k p.j q.j j
    by = covered-among k a b i j covered

    first : is_beside w p.i i ≡ true → is_beside w p.j j ≡ true → (covers_square (square_at w a) i j || covers_square (square_at w b) i j) ≡ true
    first across down = or-first (covers_square (square_at w a) i j) (covers_square (square_at w b) i j) (in-square k a i j across down)

    second : is_beside w q.i i ≡ true → is_beside w q.j j ≡ true → (covers_square (square_at w a) i j || covers_square (square_at w b) i j) ≡ true
    second across down = or-second (covers_square (square_at w a) i j) (covers_square (square_at w b) i j) (in-square k b i j across down)

-- the law
pub short-law : ShortSegmentsAddNothing
short-law w a b i j odd near covered =
    let half : w ≡ 2 * (w / 2) + 1 = omega (arith, odd) in
    rw half (short-odd (w / 2) a b i j (rw half at near) (rw half at covered))
