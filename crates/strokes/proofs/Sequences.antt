-- What follows from the rules of segments.
use Rattle.std.proofs.Common.{◌≡◌, ◌∙◌, ℕ, ◌*◌, ◌<◌, ◌≤◌, Bool, true, false, not, ◌&&◌, if◌then◌else◌, inl, inr, refl, sym, ap, arith, ⊎_elim}
use Rattle.std.proofs.lemmas.Bool.{and_from, le-ltb, lt-ltb}
use Rattle.std.proofs.lemmas.Int.{ints}
use Rattle.std.specs.Int.{int_div_euclid}
use Rattle.std.specs.Int.RustNames.{unsigned_abs}
use Rattle.std.specs.Prelude.{int_le, int_lt}
use lib.IntN.{ℤ, pos, negsuc, neg_ℤ, ◌+ℤ◌, ◌-ℤ◌, ◌*ℤ◌}
use lib.Signed.{◌<ℤ◌, ◌≤ℤ◌}
use Rattle.geom.specs.Device.{DevicePoint, centre, pixel_centre}
use Rattle.geom.specs.Edge.{EdgeEnds, high_end, low_end, rise, run}
use Rattle.geom.proofs.Products.{is_le, le_of, mul-comm, not_le_of, sub-mul}
use Rattle.geom.proofs.Quotients.{least_from}
use Rattle.geom.proofs.Products.{mul-left_comm}
use Rattle.strokes.specs.Law.{AreColumnsWide, AreInSequence, AreRowsWide, IsNothing, IsSameBack, LiesBetween, across, down}
use Rattle.strokes.specs.Segment.{covers_by_rows, covers_segment, is_between, is_steep, right_of, turned, turned_edge}
use Rattle.strokes.proofs.Beyond.{level-far}
use Rattle.strokes.proofs.Nearness.{near-left, right-steep}

-- what lies near to a line that goes on by steps of k is in sequence
in-sequence : (w : ℕ) (k m b : ℤ) → pos 0 <ℤ k → b ≡ pos w *ℤ k → AreInSequence w (λ i. int_lt (neg_ℤ b) (pos 2 *ℤ (i *ℤ k +ℤ m)) && int_le (pos 2 *ℤ (i *ℤ k +ℤ m)) b)
in-sequence w k m b some e = (first, λ i. both i)
  where
    offset : ℤ
    offset = pos 2 *ℤ m +ℤ b -ℤ pos 1

    first : ℤ
    first = neg_ℤ (int_div_euclid offset (pos 2 *ℤ k))

    left : (i : ℤ) → int_lt (neg_ℤ b) (pos 2 *ℤ (i *ℤ k +ℤ m)) ≡ int_le first i
    left i = sym (near-left i k m b) ∙ least_from offset (pos 2 *ℤ k) i (omega (arith, ints))

    moved : (i a : ℤ) → a ≡ i *ℤ k → (i -ℤ pos w) *ℤ k ≡ a -ℤ b
    moved i a f = sub-mul i (pos w) k ∙ rw (e, f)

    apart : (a c : ℤ) → c ≡ a -ℤ b → int_le (pos 2 *ℤ (a +ℤ m)) b ≡ not (int_lt (neg_ℤ b) (pos 2 *ℤ (c +ℤ m)))
    apart a c f = opposite (pos 2 *ℤ (a +ℤ m)) (pos 2 *ℤ (c +ℤ m)) (omega (arith, ints))
      where
        opposite : (s t : ℤ) → t ≡ s -ℤ b -ℤ b → int_le s b ≡ not (int_lt (neg_ℤ b) t)
        opposite s t g = go (int_le s b) refl
          where
            go : (u : Bool) → int_le s b ≡ u → u ≡ not (int_lt (neg_ℤ b) t)
            go true h = let r : int_lt (neg_ℤ b) t ≡ false = sym (omega (arith, ints)) in rw r
            go false h = let r : int_lt (neg_ℤ b) t ≡ true = sym (omega (arith, ints)) in rw r

    less : (i f : ℤ) → not (int_le f (i -ℤ pos w)) ≡ int_lt i (f +ℤ pos w)
    less i f = go (int_lt i (f +ℤ pos w)) refl
      where
        go : (u : Bool) → int_lt i (f +ℤ pos w) ≡ u → not (int_le f (i -ℤ pos w)) ≡ u
        go true h = let r : int_le f (i -ℤ pos w) ≡ false = sym (omega (arith, ints)) in rw r
        go false h = let r : int_le f (i -ℤ pos w) ≡ true = sym (omega (arith, ints)) in rw r

    both : (i : ℤ) → (int_lt (neg_ℤ b) (pos 2 *ℤ (i *ℤ k +ℤ m)) && int_le (pos 2 *ℤ (i *ℤ k +ℤ m)) b) ≡ (int_le first i && int_lt i (first +ℤ pos w))
    both i =
        let right : int_le (pos 2 *ℤ (i *ℤ k +ℤ m)) b ≡ int_lt i (first +ℤ pos w) =
        apart (i *ℤ k) ((i -ℤ pos w) *ℤ k) (moved i (i *ℤ k) refl) ∙ (ap not (left (i -ℤ pos w)) ∙ less i first) in
        rw (left i, right)

-- so is what a segment covers of a row between its ends
rows-wide : (w : ℕ) (e : EdgeEnds) (j : ℤ) → pos 0 <ℤ rise e → is_between e (centre j) ≡ true → AreInSequence w (λ i. covers_by_rows w e (pixel_centre i j))
rows-wide w e j some between =
    let sequence = in-sequence w (pos 16 *ℤ rise e) (right_of e (pixel_centre (pos 0) j)) (pos (16 * w) *ℤ rise e) (omega (arith, ints)) (widths w (rise e)) in
    (sequence.0, λ i. rw between (rw (right-steep e i j) at (sequence.1 i)))
  where
    widths : (w : ℕ) (r : ℤ) → pos (16 * w) *ℤ r ≡ pos w *ℤ (pos 16 *ℤ r)
    widths w r =
        let same : pos (16 * w) ≡ pos 16 *ℤ pos w = omega (arith, ints) in
        rw same (mul-comm (pos 16 *ℤ pos w) r ∙ (mul-left_comm r (pos 16) (pos w) ∙ (ap (λ z. pos 16 *ℤ z) (mul-comm r (pos w)) ∙ mul-left_comm (pos 16) (pos w) r)))

-- a rise is never below 0, and above it where the segment is steep
pub rise-least : (e : EdgeEnds) → pos 0 ≤ℤ rise e
rise-least e = go (int_le e.from.y e.to.y) refl
  where
    go : (t : Bool) → int_le e.from.y e.to.y ≡ t → pos 0 ≤ℤ ((if t then e.to else e.from).y -ℤ (if t then e.from else e.to).y)
    go true h = omega (arith, ints)
    go false h = omega (arith, ints)

pub positive : (z : ℤ) → pos 0 ≤ℤ z → 0 < unsigned_abs z → pos 0 <ℤ z
positive (pos n) p q = omega (arith, ints)
positive (negsuc n) p q = absurd (omega (arith, ints))

-- how far a segment goes across and down
apart-same : (a b : ℤ) → unsigned_abs (a -ℤ b) ≡ unsigned_abs (b -ℤ a)
apart-same a b = omega (arith, ints)

pub run-across : (a b : DevicePoint) → unsigned_abs (run (record { from = a; to = b })) ≡ across a b
run-across a b = go (int_le a.y b.y)
  where
    go : (t : Bool) → unsigned_abs ((if t then b else a).x -ℤ (if t then a else b).x) ≡ across a b
    go true = refl
    go false = apart-same a.x b.x

pub rise-down : (a b : DevicePoint) → unsigned_abs (rise (record { from = a; to = b })) ≡ down a b
rise-down a b = go (int_le a.y b.y)
  where
    go : (t : Bool) → unsigned_abs ((if t then b else a).y -ℤ (if t then a else b).y) ≡ down a b
    go true = refl
    go false = apart-same a.y b.y

-- what lies between two heights lies between the ends of the segment
pub between-ends : (a b : DevicePoint) (y : ℤ) → LiesBetween a.y y b.y → is_between (record { from = a; to = b }) y ≡ true
between-ends a b y h = go (int_le a.y b.y) refl
  where
    both : (low high : ℤ) → low ≤ℤ y → y ≤ℤ high → (int_le low y && int_le y high) ≡ true
    both low high p q = and_from (int_le low y) (int_le y high) (is_le low y p) (is_le y high q)

    go : (t : Bool) → int_le a.y b.y ≡ t → (int_le (if t then a else b).y y && int_le y (if t then b else a).y) ≡ true
    go true e = ⊎_elim (λ p. both a.y b.y p.0 p.1) (λ p. both a.y b.y (omega (arith, ints, p.0, p.1, le_of a.y b.y e)) (omega (arith, ints, p.0, p.1, le_of a.y b.y e))) h
    go false e = ⊎_elim (λ p. both b.y a.y (omega (arith, ints, p.0, p.1, not_le_of a.y b.y e)) (omega (arith, ints, p.0, p.1, not_le_of a.y b.y e))) (λ p. both b.y a.y p.0 p.1) h

-- and of the turned one
pub between-turned : (a b : DevicePoint) (x : ℤ) → LiesBetween a.x x b.x → is_between (turned_edge (record { from = a; to = b })) x ≡ true
between-turned a b x h = go (int_le a.y b.y)
  where
    go : (t : Bool) → is_between (record { from = turned (if t then a else b); to = turned (if t then b else a) }) x ≡ true
    go true = between-ends (turned a) (turned b) x h
    go false = between-ends (turned b) (turned a) x (⊎_elim (λ p. inr p) (λ p. inl p) h)

pub rows : AreRowsWide
unfolding covers_segment
rows w a b j further between =
    let e : EdgeEnds = record { from = a; to = b } in
    let more : unsigned_abs (run e) < unsigned_abs (rise e) = rw (run-across a b, rise-down a b) further in
    let steep : is_steep e ≡ true = lt-ltb (unsigned_abs (run e)) (unsigned_abs (rise e)) more in
    let some : pos 0 <ℤ rise e = positive (rise e) (rise-least e) (omega (arith, more)) in
    let sequence = rows-wide w e j some (between-ends a b (centre j) between) in
    (sequence.0, λ i. rw steep (sequence.1 i))

-- a segment that goes across rises where it is turned
pub turned-rise : (e : EdgeEnds) → 0 < unsigned_abs (run e) → pos 0 <ℤ rise (turned_edge e)
turned-rise e h = go (int_le (low_end e).x (high_end e).x) refl
  where
    apart : (z : ℤ) → 0 < unsigned_abs z → pos 0 ≤ℤ z → pos 0 <ℤ z
    apart z p q = positive z q p

    other : (z : ℤ) → 0 < unsigned_abs z → z <ℤ pos 0 → pos 0 <ℤ neg_ℤ z
    other z p q = omega (arith, ints)

    go : (t : Bool) → int_le (low_end e).x (high_end e).x ≡ t →
        pos 0 <ℤ ((if t then turned (high_end e) else turned (low_end e)).y -ℤ (if t then turned (low_end e) else turned (high_end e)).y)
    go true q = apart (run e) h (omega (arith, ints))
    go false q = omega (arith, ints)

pub columns : AreColumnsWide
unfolding covers_segment
columns w a b i least some between =
    let e : EdgeEnds = record { from = a; to = b } in
    let most : unsigned_abs (rise e) ≤ unsigned_abs (run e) = rw (run-across a b, rise-down a b) least in
    let flat : is_steep e ≡ false = le-ltb (unsigned_abs (run e)) (unsigned_abs (rise e)) most in
    let goes : 0 < unsigned_abs (run e) = rw (run-across a b) some in
    let sequence = rows-wide w (turned_edge e) i (turned-rise e goes) (between-turned a b (centre i) between) in
    (sequence.0, λ j. rw flat (sequence.1 j))

-- what no segment without a rise covers
pub level-rows : (w : ℕ) (e : EdgeEnds) (p : DevicePoint) → rise e ≡ pos 0 → covers_by_rows w e p ≡ false
level-rows w e p level = go (is_between e p.y) refl
  where
    go : (t : Bool) → is_between e p.y ≡ t → covers_by_rows w e p ≡ false
    go true h = rw h (level-far w e p level h)
    go false h = rw h

-- what is covered depends on the ends from the upper one
ends-rows : (w : ℕ) (a b : EdgeEnds) (p : DevicePoint) → low_end a ≡ low_end b → high_end a ≡ high_end b → covers_by_rows w a p ≡ covers_by_rows w b p
ends-rows w a b p l h = rw (l, h)

ends-segment : (w : ℕ) (a b : EdgeEnds) (p : DevicePoint) → low_end a ≡ low_end b → high_end a ≡ high_end b → covers_segment w a p ≡ covers_segment w b p
unfolding covers_segment
ends-segment w a b p l h = rw (l, h)

-- both directions, by which end lies higher
rows-back : (w : ℕ) (a b p : DevicePoint) → covers_by_rows w (record { from = b; to = a }) p ≡ covers_by_rows w (record { from = a; to = b }) p
rows-back w a b p = go (int_le a.y b.y) (int_le b.y a.y) refl refl
  where
    go : (t u : Bool) → int_le a.y b.y ≡ t → int_le b.y a.y ≡ u → covers_by_rows w (record { from = b; to = a }) p ≡ covers_by_rows w (record { from = a; to = b }) p
    go true false h k = ends-rows w (record { from = b; to = a }) (record { from = a; to = b }) p (rw (h, k)) (rw (h, k))
    go false true h k = ends-rows w (record { from = b; to = a }) (record { from = a; to = b }) p (rw (h, k)) (rw (h, k))
    go true true h k =
        level-rows w (record { from = b; to = a }) p (rw k (omega (arith, ints)))
        ∙ sym (level-rows w (record { from = a; to = b }) p (rw h (omega (arith, ints))))
    go false false h k = absurd (omega (arith, ints))

pub back : IsSameBack
unfolding covers_segment
back w a b p = go (int_le a.y b.y) (int_le b.y a.y) refl refl
  where
    level : (e : EdgeEnds) → rise e ≡ pos 0 → is_steep e ≡ false
    level e h = le-ltb (unsigned_abs (run e)) (unsigned_abs (rise e)) (rw h (omega arith))

    go : (t u : Bool) → int_le a.y b.y ≡ t → int_le b.y a.y ≡ u → covers_segment w (record { from = b; to = a }) p ≡ covers_segment w (record { from = a; to = b }) p
    go true false h k = ends-segment w (record { from = b; to = a }) (record { from = a; to = b }) p (rw (h, k)) (rw (h, k))
    go false true h k = ends-segment w (record { from = b; to = a }) (record { from = a; to = b }) p (rw (h, k)) (rw (h, k))
    go true true h k =
        let one = level (record { from = b; to = a }) (rw k (omega (arith, ints))) in
        let other = level (record { from = a; to = b }) (rw h (omega (arith, ints))) in
        rw (one, other) (rw (h, k) (rows-back w (turned a) (turned b) (turned p)))
    go false false h k = absurd (omega (arith, ints))

pub nothing : IsNothing
unfolding covers_segment
nothing w a p = go (is_steep (record { from = a; to = a }))
  where
    none : (z : ℤ) → z -ℤ z ≡ pos 0
    none z = omega (arith, ints)

    level : (b : DevicePoint) → rise (record { from = b; to = b }) ≡ pos 0
    level b = none (if int_le b.y b.y then b else b).y

    go : (t : Bool) → (if t then covers_by_rows w (record { from = a; to = a }) p else covers_by_rows w (turned_edge (record { from = a; to = a })) (turned p)) ≡ false
    go true = level-rows w (record { from = a; to = a }) p (level a)
    go false = level-rows w (turned_edge (record { from = a; to = a })) (turned p) (level (turned (low_end (record { from = a; to = a }))))
