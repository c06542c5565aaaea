-- The columns of a row that a round segment covers.
use Rattle.std.proofs.Common.{◌≡◌, ◌∙◌, ℕ, ◌+◌, ◌*◌, ◌^◌, ◌<◌, ◌≤◌, min, max, Bool, true, false, ◌&&◌, ◌||◌, ◌⊎◌, inl, inr, refl, sym, ap, arith, ⊎_elim}
use Rattle.std.proofs.Math.Nat.{mul-le-mul_right}
use Rattle.std.proofs.lemmas.Bool.{and_from, and_parts, and_right, cases_lt, le-leb, le-ltb, leb-true, lt-leb, lt-ltb, ltb-true, or_left, or_right}
use Rattle.std.proofs.lemmas.Int.{ints}
use Rattle.std.specs.Int.RustNames.{unsigned_abs}
use Rattle.std.specs.Prelude.{int_le, int_lt, nat_le, nat_lt}
use lib.IntN.{ℤ, pos, negsuc, neg_ℤ, ◌+ℤ◌, ◌-ℤ◌, ◌*ℤ◌}
use lib.Signed.{◌<ℤ◌, ◌≤ℤ◌}
use mir.Syntax.{w64, w128}
use mir.Val.{SFits, to_z, of_z}
use Rattle.geom.specs.Device.{DevicePoint, centre, pixel_centre}
use Rattle.geom.specs.Edge.{EdgeEnds}
use Rattle.geom.specs.Range.{IsBelow}
use Rattle.geom.proofs.Products.{add-mul, is_le, le_of, mul-add, mul-comm, mul-left_comm, mul-neg, not_le_of, product_nonneg, same_order, same_test, sub-mul}
use Rattle.scanfill.specs.declared.span.Span.{Span}
use Rattle.scanfill.specs.Runs.{has_column}
use Rattle.strokes.specs.Columns.{is_kept}
use Rattle.strokes.specs.Round.{IsRoot, along, aside, covers_round, is_abreast, is_close, is_round, joined, square}
use Rattle.strokes.proofs.RoundNear.{three-parts}
use Rattle.strokes.proofs.RoundRuns.{rows-law}
use Rattle.strokes.proofs.Squares.{mul-assoc, square-neg}

-- the root of a number, by naturals
pub root-is : (n : ℤ) (m r : ℕ) → pos 0 ≤ℤ n → m ≡ unsigned_abs n → r * r ≤ m → m < (r + 1) * (r + 1) → IsRoot n (pos r)
root-is (pos a) m r p e h g = record { least = omega (arith, ints); most = omega (arith, ints, h, e); next = omega (arith, ints, g, e) }
root-is (negsuc a) m r p e h g = absurd (omega (arith, ints))

pub root-small : (n : ℤ) (m r : ℕ) → IsBelow (2 ^ 120) n → m ≡ unsigned_abs n → r * r ≤ m → r < 2 ^ 61
root-small n m r below e h = ⊎_elim
    (λ (small : r < 2 ^ 61). small)
    (λ (large : 2 ^ 61 ≤ r). absurd (omega (arith, mul-le-mul_right {m = 2 ^ 61} {n = r} r large, h, size n m below e)))
    (cases_lt r (2 ^ 61))
  where
    size : (n : ℤ) (m : ℕ) → IsBelow (2 ^ 120) n → m ≡ unsigned_abs n → m < 2 ^ 120
    size (pos a) m below e = omega (arith, ints, e)
    size (negsuc a) m below e = omega (arith, ints, e)

pub word-nat : (r : ℕ) → r < 2 ^ 61 → to_z w64 r ≡ pos r
word-nat r h = omega (arith, ints)

-- squares have the order of their roots
pub square-order : (a b : ℤ) → pos 0 ≤ℤ b → b ≤ℤ a → square b ≤ℤ square a
square-order a b p h = go (a *ℤ a) (a *ℤ b) (b *ℤ b)
    (rw (sub-mul a b (a +ℤ b), mul-add a a b, mul-add b a b, mul-comm b a) at (product_nonneg (a -ℤ b) (a +ℤ b) (omega (arith, ints)) (omega (arith, ints))))
  where
    go : (s t u : ℤ) → pos 0 ≤ℤ ((s +ℤ t) -ℤ (t +ℤ u)) → u ≤ℤ s
    go s t u h = omega (arith, ints)

-- a square is at most a number where its root lies within that of the number, both ways
pub root-test : (n r a : ℤ) → IsRoot n r → int_le (square a) n ≡ (int_le (neg_ℤ r) a && int_le a r)
root-test n r a is = same_test (int_le (square a) n) (int_le (neg_ℤ r) a && int_le a r)
    (λ h. and_from (int_le (neg_ℤ r) a) (int_le a r) (is_le (neg_ℤ r) a (left (int_le (neg_ℤ r) a) refl (le_of (square a) n h))) (is_le a r (right (int_le a r) refl (le_of (square a) n h))))
    (λ h.
    let both = and_parts (int_le (neg_ℤ r) a) (int_le a r) h in
    is_le (square a) n (within (int_le (pos 0) a) refl (le_of (neg_ℤ r) a both.0) (le_of a r both.1)))
  where
    left : (t : Bool) → int_le (neg_ℤ r) a ≡ t → square a ≤ℤ n → neg_ℤ r ≤ℤ a
    left true e h = le_of (neg_ℤ r) a e
    left false e h = absurd (omega (
      arith,
      ints,
      h,
      is.next,
      square-neg a,
      square-order (neg_ℤ a) (r +ℤ pos 1) (omega (arith, ints, is.least)) (omega (arith, ints, not_le_of (neg_ℤ r) a e)),
    ))

    right : (t : Bool) → int_le a r ≡ t → square a ≤ℤ n → a ≤ℤ r
    right true e h = le_of a r e
    right false e h = absurd (omega (arith, ints, h, is.next, square-order a (r +ℤ pos 1) (omega (arith, ints, is.least)) (omega (arith, ints, not_le_of a r e))))

    within : (t : Bool) → int_le (pos 0) a ≡ t → neg_ℤ r ≤ℤ a → a ≤ℤ r → square a ≤ℤ n
    within true e p q = omega (arith, ints, is.most, square-order r a (le_of (pos 0) a e) q)
    within false e p q = omega (arith, ints, is.most, square-neg a, square-order r (neg_ℤ a) (omega (arith, ints, not_le_of (pos 0) a e)) (omega (arith, ints, p)))

-- the columns of a disc, by the root of what is left of the square of its half width
pub chord : (h d x r k : ℤ) → IsRoot (h -ℤ d) r → (int_le (x -ℤ r) k && int_le k (x +ℤ r)) ≡ int_le (square (k -ℤ x) +ℤ d) h
chord h d x r k is =
    let first = same_order (x -ℤ r) k (neg_ℤ r) (k -ℤ x) (λ p. omega (arith, ints, p)) (λ p. omega (arith, ints, p)) in
    let second = same_order k (x +ℤ r) (k -ℤ x) r (λ p. omega (arith, ints, p)) (λ p. omega (arith, ints, p)) in
    rw (first, second, ← root-test (h -ℤ d) r (k -ℤ x) is) (go (square (k -ℤ x)))
  where
    go : (s : ℤ) → int_le s (h -ℤ d) ≡ int_le (s +ℤ d) h
    go s = same_order s (h -ℤ d) (s +ℤ d) h (λ p. omega (arith, ints, p)) (λ p. omega (arith, ints, p))

-- there are none where nothing is left
pub no-chord : (h d s : ℤ) → (h -ℤ d) <ℤ pos 0 → pos 0 ≤ℤ s → int_le (s +ℤ d) h ≡ false
no-chord h d s less some = sym (omega (arith, ints))

pub no-columns : (i : ℕ) → has_column (record { from = 0; to = 0 }) i ≡ false
no-columns i = and_right (nat_le 0 i) (nat_lt i 0) (le-ltb i 0 (omega arith))

pub all-columns : (end i : ℕ) → i < end → has_column (record { from = 0; to = end }) i ≡ true
all-columns end i h = and_from (nat_le 0 i) (nat_lt i end) (le-leb 0 i (omega arith)) (lt-ltb i end h)

-- what i128 computes of offsets
pub less-one : (a : ℤ) → IsBelow (2 ^ 98) a → to_z w128 (of_z w128 (to_z w128 (of_z w128 a) -ℤ pos 1)) ≡ a -ℤ pos 1
less-one a h = omega (arith, ints)

pub sum-is : (a b : ℤ) → IsBelow (2 ^ 98) a → IsBelow (2 ^ 98) b → to_z w128 (of_z w128 (to_z w128 (of_z w128 a) +ℤ to_z w128 (of_z w128 b))) ≡ a +ℤ b
sum-is a b p q = omega (arith, ints)

pub difference-is : (a b : ℤ) → IsBelow (2 ^ 98) a → IsBelow (2 ^ 98) b → to_z w128 (of_z w128 (to_z w128 (of_z w128 a) -ℤ to_z w128 (of_z w128 b))) ≡ a -ℤ b
difference-is a b p q = omega (arith, ints)

-- what i64 computes of them
pub word-less : (a b : ℤ) → IsBelow (2 ^ 61) a → IsBelow (2 ^ 61) b → to_z w64 (of_z w64 (to_z w64 (of_z w64 a) -ℤ to_z w64 (of_z w64 b))) ≡ a -ℤ b
word-less a b p q = omega (arith, ints)

pub word-more : (a b : ℤ) → IsBelow (2 ^ 61) a → IsBelow (2 ^ 61) b → to_z w64 (of_z w64 (to_z w64 (of_z w64 a) +ℤ to_z w64 (of_z w64 b))) ≡ a +ℤ b
word-more a b p q = omega (arith, ints)

pub fits-less : (a b : ℤ) → IsBelow (2 ^ 61) a → IsBelow (2 ^ 61) b → SFits w64 (to_z w64 (of_z w64 a) -ℤ to_z w64 (of_z w64 b))
fits-less a b p q = omega (arith, ints)

pub fits-more : (a b : ℤ) → IsBelow (2 ^ 61) a → IsBelow (2 ^ 61) b → SFits w64 (to_z w64 (of_z w64 a) +ℤ to_z w64 (of_z w64 b))
fits-more a b p q = omega (arith, ints)

pub below-less : (a b : ℤ) → IsBelow (2 ^ 61) a → IsBelow (2 ^ 61) b → IsBelow (2 ^ 62) (a -ℤ b)
below-less a b p q = record { above = omega (arith, ints, p, q); below = omega (arith, ints, p, q) }

pub below-sum : (a b : ℤ) → IsBelow (2 ^ 61) a → IsBelow (2 ^ 61) b → IsBelow (2 ^ 62) (a +ℤ b)
below-sum a b p q = record { above = omega (arith, ints, p, q); below = omega (arith, ints, p, q) }

-- the centre of a column, by that of the first one
pub next-centre : (i row : ℕ) → Path DevicePoint (record { x = centre (pos 0) +ℤ pos 16 *ℤ pos i; y = centre (pos row) }) (pixel_centre (pos i) (pos row))
next-centre i row = ap (λ (z : ℤ). point z) (same i)
  where
    point : ℤ → DevicePoint
    point z = record { x = z; y = centre (pos row) }

    same : (i : ℕ) → centre (pos 0) +ℤ pos 16 *ℤ pos i ≡ centre (pos i)
    same i = omega (arith, ints)

-- a step to the next column
step-out : (i : ℕ) (s : ℤ) → (pos 16 *ℤ pos i) *ℤ s ≡ pos i *ℤ (pos 16 *ℤ s)
step-out i s = mul-assoc (pos 16) (pos i) s ∙ mul-left_comm (pos 16) (pos i) s

moved : (x o i : ℤ) → (x +ℤ i) -ℤ o ≡ (x -ℤ o) +ℤ i
moved x o i = omega (arith, ints)

pub along-step : (e : EdgeEnds) (p : DevicePoint) (i : ℕ) →
    along e (record { x = p.x +ℤ pos 16 *ℤ pos i; y = p.y }) ≡ pos i *ℤ (pos 16 *ℤ (e.to.x -ℤ e.from.x)) +ℤ along e p
along-step e p i = go (p.x -ℤ e.from.x) (e.to.x -ℤ e.from.x) ((p.x +ℤ pos 16 *ℤ pos i) -ℤ e.from.x) ((p.y -ℤ e.from.y) *ℤ (e.to.y -ℤ e.from.y)) (moved p.x e.from.x (pos 16 *ℤ pos i))
  where
    go : (u s v b : ℤ) → v ≡ u +ℤ pos 16 *ℤ pos i → v *ℤ s +ℤ b ≡ pos i *ℤ (pos 16 *ℤ s) +ℤ (u *ℤ s +ℤ b)
    go u s v b e = rw e (rw (add-mul u (pos 16 *ℤ pos i) s, step-out i s) (sums (u *ℤ s) (pos i *ℤ (pos 16 *ℤ s)) b))
      where
        sums : (c d f : ℤ) → (c +ℤ d) +ℤ f ≡ d +ℤ (c +ℤ f)
        sums c d f = omega (arith, ints)

pub aside-step : (e : EdgeEnds) (p : DevicePoint) (i : ℕ) →
    aside e (record { x = p.x +ℤ pos 16 *ℤ pos i; y = p.y }) ≡ aside e p -ℤ pos i *ℤ (pos 16 *ℤ (e.to.y -ℤ e.from.y))
aside-step e p i = go (p.x -ℤ e.from.x) (e.to.y -ℤ e.from.y) ((p.x +ℤ pos 16 *ℤ pos i) -ℤ e.from.x) ((p.y -ℤ e.from.y) *ℤ (e.to.x -ℤ e.from.x)) (moved p.x e.from.x (pos 16 *ℤ pos i))
  where
    go : (u t v b : ℤ) → v ≡ u +ℤ pos 16 *ℤ pos i → b -ℤ v *ℤ t ≡ (b -ℤ u *ℤ t) -ℤ pos i *ℤ (pos 16 *ℤ t)
    go u t v b e = rw e (rw (add-mul u (pos 16 *ℤ pos i) t, step-out i t) (sums (u *ℤ t) (pos i *ℤ (pos 16 *ℤ t)) b))
      where
        sums : (c d f : ℤ) → f -ℤ (c +ℤ d) ≡ (f -ℤ c) -ℤ d
        sums c d f = omega (arith, ints)

-- the columns past one perpendicular, and before the other one
pub kept-past : (i : ℕ) (s a : ℤ) → is_kept s (a -ℤ pos 1) i ≡ int_lt (pos 0) (pos i *ℤ s +ℤ a)
kept-past i s a = go (pos i *ℤ s)
  where
    go : (b : ℤ) → int_le (pos 0) (b +ℤ (a -ℤ pos 1)) ≡ int_lt (pos 0) (b +ℤ a)
    go b = same_test (int_le (pos 0) (b +ℤ (a -ℤ pos 1))) (int_lt (pos 0) (b +ℤ a)) (λ h. sym (omega (arith, ints, h))) (λ h. sym (omega (arith, ints, h)))

pub kept-before : (i : ℕ) (s a d : ℤ) → is_kept (neg_ℤ s) ((d -ℤ a) -ℤ pos 1) i ≡ int_lt (pos i *ℤ s +ℤ a) d
kept-before i s a d = rw (mul-neg (pos i) s) (go (pos i *ℤ s))
  where
    go : (b : ℤ) → int_le (pos 0) (neg_ℤ b +ℤ ((d -ℤ a) -ℤ pos 1)) ≡ int_lt (b +ℤ a) d
    go b = same_test (int_le (pos 0) (neg_ℤ b +ℤ ((d -ℤ a) -ℤ pos 1))) (int_lt (b +ℤ a) d) (λ h. sym (omega (arith, ints, h))) (λ h. sym (omega (arith, ints, h)))

-- and those within reach of the line
pub kept-least : (i : ℕ) (s a r : ℤ) → is_kept (neg_ℤ s) (r +ℤ a) i ≡ int_le (neg_ℤ r) (a -ℤ pos i *ℤ s)
kept-least i s a r = rw (mul-neg (pos i) s) (go (pos i *ℤ s))
  where
    go : (b : ℤ) → int_le (pos 0) (neg_ℤ b +ℤ (r +ℤ a)) ≡ int_le (neg_ℤ r) (a -ℤ b)
    go b = same_order (pos 0) (neg_ℤ b +ℤ (r +ℤ a)) (neg_ℤ r) (a -ℤ b) (λ h. omega (arith, ints, h)) (λ h. omega (arith, ints, h))

pub kept-most : (i : ℕ) (s a r : ℤ) → is_kept s (r -ℤ a) i ≡ int_le (a -ℤ pos i *ℤ s) r
kept-most i s a r = go (pos i *ℤ s)
  where
    go : (b : ℤ) → int_le (pos 0) (b +ℤ (r -ℤ a)) ≡ int_le (a -ℤ b) r
    go b = same_order (pos 0) (b +ℤ (r -ℤ a)) (a -ℤ b) r (λ h. omega (arith, ints, h)) (λ h. omega (arith, ints, h))

has-first : (s : Span) → s.from < s.to → has_column s s.from ≡ true
has-first s h = and_from (nat_le s.from s.from) (nat_lt s.from s.to) (le-leb s.from s.from (omega arith)) (lt-ltb s.from s.to h)

pub has-parts : (s : Span) (i : ℕ) → has_column s i ≡ true → (s.from ≤ i) × (i < s.to)
has-parts s i h = let both = and_parts (nat_le s.from i) (nat_lt i s.to) h in (leb-true s.from i both.0, ltb-true i s.to both.1)

pub has-from : (s : Span) (i : ℕ) → s.from ≤ i → i < s.to → has_column s i ≡ true
has-from s i p q = and_from (nat_le s.from i) (nat_lt i s.to) (le-leb s.from i p) (lt-ltb i s.to q)

-- a column before the end of a span is before one of its columns
next-of : (s : Span) (i : ℕ) → s.from < s.to → i < s.to → (n : ℕ) × (i ≤ n) × (has_column s n ≡ true)
next-of s i some h = ⊎_elim
    (λ (less : i < s.from). (s.from, omega arith, has-first s some))
    (λ (more : s.from ≤ i). (i, omega arith, has-from s i more h))
    (cases_lt i s.from)

-- a test passes between columns that it passes
abbrev pub PassesBetween : (ℕ → Bool) → Type 0
PassesBetween test = (x y z : ℕ) → x ≤ y → y ≤ z → test x ≡ true → test z ≡ true → test y ≡ true

-- so it passes in the joined columns of two spans whose columns it passes
both-pass : (test : ℕ → Bool) (a b : Span) (i : ℕ) → PassesBetween test → ((n : ℕ) → has_column a n ≡ true → test n ≡ true) → ((n : ℕ) → has_column b n ≡ true → test n ≡ true) →
    a.from < a.to → b.from < b.to → has_column (record { from = min a.from b.from; to = max a.to b.to }) i ≡ true → test i ≡ true
both-pass test a b i between f g p q h =
    let parts = has-parts (record { from = min a.from b.from; to = max a.to b.to }) i h in
    let low = lower (cases_lt i a.from) parts.0 in
    let high = upper (cases_lt i a.to) parts.1 in
    between low.0 i high.0 low.1 high.1 low.2 high.2
  where
    lower : ((i < a.from) ⊎ (a.from ≤ i)) → min a.from b.from ≤ i → (n : ℕ) × (n ≤ i) × (test n ≡ true)
    lower (inl less) h = (b.from, omega arith, g b.from (has-first b q))
    lower (inr more) h = (a.from, more, f a.from (has-first a p))

    upper : ((i < a.to) ⊎ (a.to ≤ i)) → i < max a.to b.to → (n : ℕ) × (i ≤ n) × (test n ≡ true)
    upper (inl less) h = let next = next-of a i p less in (next.0, next.1, f next.0 next.2)
    upper (inr more) h = let next = next-of b i q (omega arith) in (next.0, next.1, g next.0 next.2)

pub joined-pass : (test : ℕ → Bool) (a b : Span) (i : ℕ) → PassesBetween test → ((n : ℕ) → has_column a n ≡ true → test n ≡ true) → ((n : ℕ) → has_column b n ≡ true → test n ≡ true) →
    has_column (joined a b) i ≡ true → test i ≡ true
joined-pass test a b i between f g h = ⊎_elim
    (λ (some : a.from < a.to). ⊎_elim
    (λ (more : b.from < b.to). both-pass test a b i between f g some more (rw (lt-leb a.to a.from some, lt-leb b.to b.from more) at h))
    (λ (none : b.to ≤ b.from). f i (rw (lt-leb a.to a.from some, le-leb b.to b.from none) at h))
    (cases_lt b.from b.to))
    (λ (none : a.to ≤ a.from). g i (rw (le-leb a.to a.from none) at h))
    (cases_lt a.from a.to)

-- the joined columns have those of both spans
pub joined-first : (a b : Span) (i : ℕ) → has_column a i ≡ true → has_column (joined a b) i ≡ true
joined-first a b i h =
    let parts = has-parts a i h in
    let some : nat_le a.to a.from ≡ false = lt-leb a.to a.from (omega (arith, parts.0, parts.1)) in
    rw some (⊎_elim
    (λ (more : b.from < b.to). rw (lt-leb b.to b.from more) (has-from (record { from = min a.from b.from; to = max a.to b.to }) i (omega (arith, parts.0)) (omega (arith, parts.1))))
    (λ (none : b.to ≤ b.from). rw (le-leb b.to b.from none) h)
    (cases_lt b.from b.to))

pub joined-second : (a b : Span) (i : ℕ) → has_column b i ≡ true → has_column (joined a b) i ≡ true
joined-second a b i h =
    let parts = has-parts b i h in
    let more : nat_le b.to b.from ≡ false = lt-leb b.to b.from (omega (arith, parts.0, parts.1)) in
    ⊎_elim
    (λ (some : a.from < a.to). rw (lt-leb a.to a.from some, more) (has-from (record { from = min a.from b.from; to = max a.to b.to }) i (omega (arith, parts.0)) (omega (arith, parts.1))))
    (λ (none : a.to ≤ a.from). rw (le-leb a.to a.from none) h)
    (cases_lt a.from a.to)

-- three spans, joined, have the columns that one of three tests passes, where all that lies between such columns passes one
pub three-joined : (test f g h : ℕ → Bool) (a b d : Span) (end : ℕ) → PassesBetween test → ((i : ℕ) → test i ≡ ((f i || g i) || h i)) →
    a.to ≤ end → b.to ≤ end → d.to ≤ end → ((i : ℕ) → i < end → has_column a i ≡ f i) → ((i : ℕ) → i < end → has_column b i ≡ g i) → ((i : ℕ) → i < end → has_column d i ≡ h i) →
    (i : ℕ) → i < end → has_column (joined (joined a b) d) i ≡ test i
three-joined test f g h a b d end between all pa pb pd fa fb fd i less = same_test (has_column (joined (joined a b) d) i) (test i) there back
  where
    one : (n : ℕ) → has_column a n ≡ true → test n ≡ true
    one n e = all n ∙ or_left (f n || g n) (h n) (or_left (f n) (g n) (sym (fa n (omega (arith, (has-parts a n e).1))) ∙ e))

    two : (n : ℕ) → has_column b n ≡ true → test n ≡ true
    two n e = all n ∙ or_left (f n || g n) (h n) (or_right (f n) (g n) (sym (fb n (omega (arith, (has-parts b n e).1))) ∙ e))

    three : (n : ℕ) → has_column d n ≡ true → test n ≡ true
    three n e = all n ∙ or_right (f n || g n) (h n) (sym (fd n (omega (arith, (has-parts d n e).1))) ∙ e)

    there : has_column (joined (joined a b) d) i ≡ true → test i ≡ true
    there e = joined-pass test (joined a b) d i between (λ n. joined-pass test a b n between one two) three e

    back : test i ≡ true → has_column (joined (joined a b) d) i ≡ true
    back e = ⊎_elim
        (λ (p : f i ≡ true). joined-first (joined a b) d i (joined-first a b i (fa i less ∙ p)))
        (λ rest. ⊎_elim
        (λ (p : g i ≡ true). joined-first (joined a b) d i (joined-second a b i (fb i less ∙ p)))
        (λ (p : h i ≡ true). joined-second (joined a b) d i (fd i less ∙ p)) rest)
        (three-parts (f i) (g i) (h i) (sym (all i) ∙ e))

-- the columns of a row that a round segment covers have none between them that it doesn't
pub row-between : (w : ℕ) (e : EdgeEnds) (row : ℕ) → PassesBetween (λ i. covers_round w e (pixel_centre (pos i) (pos row)))
row-between w e row = λ x y z p q. rows-law w e (centre (pos x)) (centre (pos y)) (centre (pos z)) (centre (pos row)) (rises x y p) (rises y z q)
  where
    rises : (x y : ℕ) → x ≤ y → centre (pos x) ≤ℤ centre (pos y)
    rises x y p = omega (arith, ints, p)

pub covers-parts : (w : ℕ) (e : EdgeEnds) (p : DevicePoint) → covers_round w e p ≡ ((is_round w e.from p || is_round w e.to p) || (is_abreast e p && is_close w e p))
unfolding covers_round
covers-parts w e p = refl
