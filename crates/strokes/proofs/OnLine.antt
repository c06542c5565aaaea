-- A segment covers what lies between its ends, within half its width of its line.
use Rattle.std.proofs.Common.{◌≡◌, ◌∙◌, ℕ, ◌*◌, ◌<◌, ◌≤◌, Bool, true, false, ◌&&◌, if◌then◌else◌, inl, inr, refl, sym, ap, arith, ⊎_elim}
use Rattle.std.proofs.lemmas.Bool.{and_from, and_parts, le-ltb, lt-ltb}
use Rattle.std.proofs.lemmas.Int.{ints}
use Rattle.std.specs.Int.RustNames.{unsigned_abs}
use Rattle.std.specs.Prelude.{int_le, int_lt}
use lib.IntN.{ℤ, pos, neg_ℤ, ◌-ℤ◌, ◌*ℤ◌}
use lib.Signed.{◌<ℤ◌, ◌≤ℤ◌}
use Rattle.geom.specs.Device.{DevicePoint}
use Rattle.geom.specs.Edge.{EdgeEnds, low_end, rise, run}
use Rattle.geom.specs.Laws.{IsOnLine}
use Rattle.geom.proofs.Products.{is_le, is_lt, le_of, lt_of, mul-comm, mul-left_comm, mul-neg, mul-sub, neg-mul, not_le_of, product_negative, product_nonneg, sub-mul}
use Rattle.strokes.specs.Law.{FlatSegmentsFollowTheirLine, IsWithinHalf, LiesBetween, SteepSegmentsFollowTheirLine}
use Rattle.strokes.specs.Segment.{covers_by_rows, covers_segment, is_between, is_near, is_steep, right_of, turned, turned_edge}
use Rattle.strokes.proofs.Sequences.{between-ends, between-turned, positive, rise-down, rise-least, run-across, turned-rise}

mul-assoc : (a b c : ℤ) → (a *ℤ b) *ℤ c ≡ a *ℤ (b *ℤ c)
mul-assoc a b c = mul-comm (a *ℤ b) c ∙ (mul-left_comm c a b ∙ ap (λ z. a *ℤ z) (mul-comm c b))

-- two numbers, times d, are two others, times r: both pairs have one order
ordered : (s t u v r d : ℤ) → pos 0 <ℤ r → pos 0 <ℤ d → s *ℤ d ≡ u *ℤ r → t *ℤ d ≡ v *ℤ r → s ≤ℤ t → u ≤ℤ v
ordered s t u v r d some whole e f le = go (int_le u v) refl
  where
    times : (s *ℤ d) ≤ℤ (t *ℤ d)
    times = omega (arith, ints, product_nonneg (t -ℤ s) d (omega (arith, ints)) (omega (arith, ints)), sub-mul t s d)

    go : (b : Bool) → int_le u v ≡ b → u ≤ℤ v
    go true h = le_of u v h
    go false h = absurd (omega (arith, ints, times, e, f, product_negative (v -ℤ u) r (omega (arith, ints, not_le_of u v h)) some, sub-mul v u r))

ordered-less : (s t u v r d : ℤ) → pos 0 <ℤ r → pos 0 <ℤ d → s *ℤ d ≡ u *ℤ r → t *ℤ d ≡ v *ℤ r → s <ℤ t → u <ℤ v
ordered-less s t u v r d some whole e f less = go (int_le v u) refl
  where
    go : (b : Bool) → int_le v u ≡ b → u <ℤ v
    go true h = absurd (omega (arith, ints, less, ordered v u t s d r whole some (sym f) (sym e) (le_of v u h)))
    go false h = not_le_of v u h

-- the line of an edge is that of the edge from its second end to its first
line-back : (a b : DevicePoint) (y n d : ℤ) → IsOnLine (record { from = a; to = b }) y n d → IsOnLine (record { from = b; to = a }) y n d
line-back a b y n d line =
    let r = b.y -ℤ a.y in
    let c = b.x -ℤ a.x in
    let u = y -ℤ a.y in
    let m = n -ℤ d *ℤ a.x in
    let place : m -ℤ d *ℤ c ≡ n -ℤ d *ℤ b.x = omega (arith, ints, mul-sub d b.x a.x) in
    let height : u -ℤ r ≡ y -ℤ b.y = omega (arith, ints) in
    let up : neg_ℤ r ≡ a.y -ℤ b.y = omega (arith, ints) in
    let left : neg_ℤ c ≡ a.x -ℤ b.x = omega (arith, ints) in
    rw (place, height, up, left) at (back m u r c line)
  where
    back : (m u r c : ℤ) → m *ℤ r ≡ d *ℤ (u *ℤ c) → (m -ℤ d *ℤ c) *ℤ neg_ℤ r ≡ d *ℤ ((u -ℤ r) *ℤ neg_ℤ c)
    back m u r c e = omega (
      arith,
      ints,
      e,
      mul-neg (m -ℤ d *ℤ c) r,
      sub-mul m (d *ℤ c) r,
      mul-assoc d c r,
      ap (λ z. d *ℤ z) (mul-comm c r),
      ap (λ z. d *ℤ z) (mul-neg (u -ℤ r) c),
      mul-neg d ((u -ℤ r) *ℤ c),
      ap (λ z. d *ℤ z) (sub-mul u r c),
      mul-sub d (u *ℤ c) (r *ℤ c),
    )

-- so it is that of the edge from its upper end to the other
line-low : (e : EdgeEnds) (y n d : ℤ) → IsOnLine e y n d → (n -ℤ d *ℤ (low_end e).x) *ℤ rise e ≡ d *ℤ ((y -ℤ (low_end e).y) *ℤ run e)
line-low e y n d line = go (int_le e.from.y e.to.y)
  where
    go : (t : Bool) → IsOnLine (record { from = if t then e.from else e.to; to = if t then e.to else e.from }) y n d
    go true = line
    go false = line-back e.from e.to y n d line

-- how far right of an edge's line a point lies, times d, is how far right of n it lies by d, times the rise
distance : (e : EdgeEnds) (p : DevicePoint) (n d : ℤ) → IsOnLine e p.y n d → right_of e p *ℤ d ≡ (d *ℤ p.x -ℤ n) *ℤ rise e
distance e p n d line = go (p.x -ℤ (low_end e).x) ((p.y -ℤ (low_end e).y) *ℤ run e) (rise e) (n -ℤ d *ℤ (low_end e).x) (omega (arith, ints, mul-sub d p.x (low_end e).x)) (line-low e p.y n d line)
  where
    go : (a b r m : ℤ) → d *ℤ p.x -ℤ n ≡ d *ℤ a -ℤ m → m *ℤ r ≡ d *ℤ b → (a *ℤ r -ℤ b) *ℤ d ≡ (d *ℤ p.x -ℤ n) *ℤ r
    go a b r m e f = rw e (omega (arith, ints, f, mul-comm (a *ℤ r -ℤ b) d, mul-sub d (a *ℤ r) b, sub-mul (d *ℤ a) m r, mul-assoc d a r))

-- twice that, and the half width on both sides
twice : (e : EdgeEnds) (p : DevicePoint) (n d : ℤ) → IsOnLine e p.y n d → (pos 2 *ℤ right_of e p) *ℤ d ≡ (pos 2 *ℤ (d *ℤ p.x -ℤ n)) *ℤ rise e
twice e p n d line =
    mul-assoc (pos 2) (right_of e p) d ∙ (ap (λ z. pos 2 *ℤ z) (distance e p n d line) ∙ sym (mul-assoc (pos 2) (d *ℤ p.x -ℤ n) (rise e)))

exchanged : (k r d : ℤ) → (k *ℤ r) *ℤ d ≡ (k *ℤ d) *ℤ r
exchanged k r d = mul-assoc k r d ∙ (ap (λ z. k *ℤ z) (mul-comm r d) ∙ sym (mul-assoc k d r))

opposite : (k r d : ℤ) → neg_ℤ (k *ℤ r) *ℤ d ≡ neg_ℤ (k *ℤ d) *ℤ r
opposite k r d = neg-mul (k *ℤ r) d ∙ (ap (λ z. neg_ℤ z) (exchanged k r d) ∙ sym (neg-mul (k *ℤ d) r))

-- a point is near to a segment that rises exactly where it lies within half the width of the segment's line
near-within : (w : ℕ) (e : EdgeEnds) (p : DevicePoint) (n d : ℤ) → pos 0 <ℤ rise e → pos 0 <ℤ d → IsOnLine e p.y n d → is_near w e p ≡ true → IsWithinHalf w n d p.x
near-within w e p n d some whole line near =
    let both = and_parts (int_lt (neg_ℤ (pos (16 * w) *ℤ rise e)) (pos 2 *ℤ right_of e p)) (int_le (pos 2 *ℤ right_of e p) (pos (16 * w) *ℤ rise e)) near in (
      ordered-less (neg_ℤ (pos (16 * w) *ℤ rise e)) (pos 2 *ℤ right_of e p) (neg_ℤ (pos (16 * w) *ℤ d)) (pos 2 *ℤ (d *ℤ p.x -ℤ n)) (rise e) d some whole
          (opposite (pos (16 * w)) (rise e) d) (twice e p n d line) (lt_of (neg_ℤ (pos (16 * w) *ℤ rise e)) (pos 2 *ℤ right_of e p) both.0),
      ordered (pos 2 *ℤ right_of e p) (pos (16 * w) *ℤ rise e) (pos 2 *ℤ (d *ℤ p.x -ℤ n)) (pos (16 * w) *ℤ d) (rise e) d some whole
          (twice e p n d line) (exchanged (pos (16 * w)) (rise e) d) (le_of (pos 2 *ℤ right_of e p) (pos (16 * w) *ℤ rise e) both.1),
    )

within-near : (w : ℕ) (e : EdgeEnds) (p : DevicePoint) (n d : ℤ) → pos 0 <ℤ rise e → pos 0 <ℤ d → IsOnLine e p.y n d → IsWithinHalf w n d p.x → is_near w e p ≡ true
within-near w e p n d some whole line within =
    and_from (int_lt (neg_ℤ (pos (16 * w) *ℤ rise e)) (pos 2 *ℤ right_of e p)) (int_le (pos 2 *ℤ right_of e p) (pos (16 * w) *ℤ rise e))
    (is_lt (neg_ℤ (pos (16 * w) *ℤ rise e)) (pos 2 *ℤ right_of e p)
    (ordered-less (neg_ℤ (pos (16 * w) *ℤ d)) (pos 2 *ℤ (d *ℤ p.x -ℤ n)) (neg_ℤ (pos (16 * w) *ℤ rise e)) (pos 2 *ℤ right_of e p) d (rise e) whole some
    (sym (opposite (pos (16 * w)) (rise e) d)) (sym (twice e p n d line)) within.0))
    (is_le (pos 2 *ℤ right_of e p) (pos (16 * w) *ℤ rise e)
    (ordered (pos 2 *ℤ (d *ℤ p.x -ℤ n)) (pos (16 * w) *ℤ d) (pos 2 *ℤ right_of e p) (pos (16 * w) *ℤ rise e) d (rise e) whole some
    (sym (twice e p n d line)) (sym (exchanged (pos (16 * w)) (rise e) d)) within.1))

-- what lies between the ends of a segment lies between the two heights
ends-between : (a b : DevicePoint) (y : ℤ) → is_between (record { from = a; to = b }) y ≡ true → LiesBetween a.y y b.y
ends-between a b y h = go (int_le a.y b.y) refl
  where
    both : (low high : ℤ) → (int_le low y && int_le y high) ≡ true → (low ≤ℤ y) × (y ≤ℤ high)
    both low high g = let parts = and_parts (int_le low y) (int_le y high) g in (le_of low y parts.0, le_of y high parts.1)

    go : (t : Bool) → int_le a.y b.y ≡ t → LiesBetween a.y y b.y
    go true e = inl (both a.y b.y (rw e at h))
    go false e = inr (both b.y a.y (rw e at h))

turned-between : (a b : DevicePoint) (x : ℤ) → is_between (turned_edge (record { from = a; to = b })) x ≡ true → LiesBetween a.x x b.x
turned-between a b x h = go (int_le a.y b.y) refl
  where
    go : (t : Bool) → int_le a.y b.y ≡ t → LiesBetween a.x x b.x
    go true e = ends-between (turned a) (turned b) x (rw e at h)
    go false e = ⊎_elim (λ p. inr p) (λ p. inl p) (ends-between (turned b) (turned a) x (rw e at h))

-- what a segment that rises covers by its rows
rows-within : (w : ℕ) (e : EdgeEnds) (p : DevicePoint) (n d : ℤ) → pos 0 <ℤ rise e → pos 0 <ℤ d → IsOnLine e p.y n d → covers_by_rows w e p ≡ true →
    (is_between e p.y ≡ true) × IsWithinHalf w n d p.x
rows-within w e p n d some whole line covers =
    let both = and_parts (is_between e p.y) (is_near w e p) covers in
    (both.0, near-within w e p n d some whole line both.1)

within-rows : (w : ℕ) (e : EdgeEnds) (p : DevicePoint) (n d : ℤ) → pos 0 <ℤ rise e → pos 0 <ℤ d → IsOnLine e p.y n d → is_between e p.y ≡ true → IsWithinHalf w n d p.x →
    covers_by_rows w e p ≡ true
within-rows w e p n d some whole line between within = and_from (is_between e p.y) (is_near w e p) between (within-near w e p n d some whole line within)

pub steep-line : SteepSegmentsFollowTheirLine
unfolding covers_segment
steep-line w a b p n d further whole line =
    let e : EdgeEnds = record { from = a; to = b } in
    let more : unsigned_abs (run e) < unsigned_abs (rise e) = rw (run-across a b, rise-down a b) further in
    let steep : is_steep e ≡ true = lt-ltb (unsigned_abs (run e)) (unsigned_abs (rise e)) more in
    let some : pos 0 <ℤ rise e = positive (rise e) (rise-least e) (omega (arith, more)) in
    rw steep (
      λ covers. (let both = rows-within w e p n d some whole line covers in (ends-between a b p.y both.0, both.1)),
      λ lies. within-rows w e p n d some whole line (between-ends a b p.y lies.0) lies.1,
    )

-- the line of a turned segment, whichever end is the upper one
line-turned : (a b : DevicePoint) (x n d : ℤ) → IsOnLine (record { from = turned a; to = turned b }) x n d → IsOnLine (turned_edge (record { from = a; to = b })) x n d
line-turned a b x n d line = go (int_le a.y b.y)
  where
    go : (t : Bool) → IsOnLine (record { from = turned (if t then a else b); to = turned (if t then b else a) }) x n d
    go true = line
    go false = line-back (turned a) (turned b) x n d line

pub flat-line : FlatSegmentsFollowTheirLine
unfolding covers_segment
flat-line w a b p n d least goes whole line =
    let e : EdgeEnds = record { from = a; to = b } in
    let most : unsigned_abs (rise e) ≤ unsigned_abs (run e) = rw (run-across a b, rise-down a b) least in
    let flat : is_steep e ≡ false = le-ltb (unsigned_abs (run e)) (unsigned_abs (rise e)) most in
    let some : pos 0 <ℤ rise (turned_edge e) = turned-rise e (rw (run-across a b) goes) in
    let along = line-turned a b p.x n d line in
    rw flat (
      λ covers. (let both = rows-within w (turned_edge e) (turned p) n d some whole along covers in (turned-between a b p.x both.0, both.1)),
      λ lies. within-rows w (turned_edge e) (turned p) n d some whole along (between-turned a b p.x lies.0) lies.1,
    )
