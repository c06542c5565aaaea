-- A round segment covers exactly the points that are at most half its width away from some point of it.
use Rattle.std.proofs.Common.{◌≡◌, ◌∙◌, ℕ, ◌*◌, Bool, true, false, ◌&&◌, ◌||◌, ◌⊎◌, inl, inr, ⊎_elim, refl, sym, ap, arith}
use Rattle.std.proofs.lemmas.Bool.{and_from, and_parts, or_left, or_right}
use Rattle.std.proofs.lemmas.Int.{ints}
use Rattle.std.specs.Prelude.{int_le, int_lt}
use lib.IntN.{ℤ, pos, neg_ℤ, ◌+ℤ◌, ◌-ℤ◌, ◌*ℤ◌}
use lib.Signed.{◌<ℤ◌, ◌≤ℤ◌}
use Rattle.geom.specs.Device.{DevicePoint}
use Rattle.geom.specs.Edge.{EdgeEnds}
use Rattle.geom.proofs.Products.{is_le, is_lt, le_of, lt_of, mul-add, mul-comm, mul-neg, mul-sub, neg-mul, not_le_of, product_negative, product_nonneg, same_test, sub-mul}
use Rattle.strokes.specs.Round.{along, apart, aside, covers_round, is_abreast, is_close, is_round, point_edge, square, square_of_half}
use Rattle.strokes.specs.RoundLaw.{IsNear, RoundPointsAreDiscs, RoundSegmentsAreNear, RoundSegmentsAreSameBack}
use Rattle.strokes.proofs.Squares.{cancel, exchanged, lagrange, mul-assoc, square-mul, square-nonneg, square-sub, times}

-- how far away a point of the way lies, squared
spread : (u v s t k m : ℤ) → square (m *ℤ u -ℤ k *ℤ s) +ℤ square (m *ℤ v -ℤ k *ℤ t)
    ≡ square m *ℤ (square u +ℤ square v) -ℤ pos 2 *ℤ ((m *ℤ k) *ℤ (u *ℤ s +ℤ v *ℤ t)) +ℤ square k *ℤ (square s +ℤ square t)
spread u v s t k m = rw (
  square-sub (m *ℤ u) (k *ℤ s),
  square-sub (m *ℤ v) (k *ℤ t),
  square-mul m u,
  square-mul m v,
  square-mul k s,
  square-mul k t,
  exchanged m u k s,
  exchanged m v k t,
  mul-add (square m) (square u) (square v),
  mul-add (m *ℤ k) (u *ℤ s) (v *ℤ t),
  mul-add (square k) (square s) (square t),
) (go (square m *ℤ square u) ((m *ℤ k) *ℤ (u *ℤ s)) (square k *ℤ square s) (square m *ℤ square v) ((m *ℤ k) *ℤ (v *ℤ t)) (square k *ℤ square t))
  where
    go : (a b c d e f : ℤ) → (a -ℤ pos 2 *ℤ b +ℤ c) +ℤ (d -ℤ pos 2 *ℤ e +ℤ f) ≡ (a +ℤ d) -ℤ pos 2 *ℤ (b +ℤ e) +ℤ (c +ℤ f)
    go a b c d e f = omega (arith, ints)

square-pos : (m : ℤ) → pos 0 <ℤ m → pos 0 <ℤ square m
square-pos m h = omega (arith, ints, product_negative (neg_ℤ m) m (omega (arith, ints)) h, neg-mul m m)

pub sum-nonneg : (s t : ℤ) → pos 0 ≤ℤ (square s +ℤ square t)
sum-nonneg s t = omega (arith, ints, square-nonneg s, square-nonneg t)

-- a point before the first end is no nearer to a further point of the way
before : (u v s t k m r : ℤ) → pos 0 <ℤ m → pos 0 ≤ℤ k → (u *ℤ s +ℤ v *ℤ t) ≤ℤ pos 0 →
    (square (m *ℤ u -ℤ k *ℤ s) +ℤ square (m *ℤ v -ℤ k *ℤ t)) ≤ℤ square (m *ℤ r) → (square u +ℤ square v) ≤ℤ square r
before u v s t k m r some least along near = cancel (square m) (square u +ℤ square v) (square r) (square-pos m some)
    (go (square m *ℤ (square u +ℤ square v)) ((m *ℤ k) *ℤ (u *ℤ s +ℤ v *ℤ t)) (square k *ℤ (square s +ℤ square t)) (square m *ℤ square r)
    (rw (← spread u v s t k m, ← square-mul m r) near)
    (back (product_nonneg (m *ℤ k) (neg_ℤ (u *ℤ s +ℤ v *ℤ t)) (product_nonneg m k (omega (arith, ints)) least) (omega (arith, ints))))
    (product_nonneg (square k) (square s +ℤ square t) (square-nonneg k) (sum-nonneg s t)))
  where
    go : (a b c d : ℤ) → (a -ℤ pos 2 *ℤ b +ℤ c) ≤ℤ d → b ≤ℤ pos 0 → pos 0 ≤ℤ c → a ≤ℤ d
    go a b c d h p q = omega (arith, ints)

    back : pos 0 ≤ℤ ((m *ℤ k) *ℤ neg_ℤ (u *ℤ s +ℤ v *ℤ t)) → ((m *ℤ k) *ℤ (u *ℤ s +ℤ v *ℤ t)) ≤ℤ pos 0
    back h = omega (arith, ints, h, mul-neg (m *ℤ k) (u *ℤ s +ℤ v *ℤ t))

-- the two numbers of a point of the way, along and aside
along-way : (u v s t k m : ℤ) → (m *ℤ u -ℤ k *ℤ s) *ℤ s +ℤ (m *ℤ v -ℤ k *ℤ t) *ℤ t ≡ m *ℤ (u *ℤ s +ℤ v *ℤ t) -ℤ k *ℤ (square s +ℤ square t)
along-way u v s t k m = rw (
  sub-mul (m *ℤ u) (k *ℤ s) s,
  sub-mul (m *ℤ v) (k *ℤ t) t,
  mul-assoc m u s,
  mul-assoc m v t,
  mul-assoc k s s,
  mul-assoc k t t,
  mul-add m (u *ℤ s) (v *ℤ t),
  mul-add k (square s) (square t),
) (go (m *ℤ (u *ℤ s)) (k *ℤ square s) (m *ℤ (v *ℤ t)) (k *ℤ square t))
  where
    go : (a b c d : ℤ) → (a -ℤ b) +ℤ (c -ℤ d) ≡ (a +ℤ c) -ℤ (b +ℤ d)
    go a b c d = omega (arith, ints)

aside-way : (u v s t k m : ℤ) → (m *ℤ v -ℤ k *ℤ t) *ℤ s -ℤ (m *ℤ u -ℤ k *ℤ s) *ℤ t ≡ m *ℤ (v *ℤ s -ℤ u *ℤ t)
aside-way u v s t k m = rw (
  sub-mul (m *ℤ v) (k *ℤ t) s,
  sub-mul (m *ℤ u) (k *ℤ s) t,
  mul-assoc m v s,
  mul-assoc m u t,
  mul-assoc k t s,
  mul-assoc k s t,
  mul-comm t s,
  mul-sub m (v *ℤ s) (u *ℤ t),
) (go (m *ℤ (v *ℤ s)) (k *ℤ (s *ℤ t)) (m *ℤ (u *ℤ t)))
  where
    go : (a b c : ℤ) → (a -ℤ b) -ℤ (c -ℤ b) ≡ a -ℤ c
    go a b c = omega (arith, ints)

-- a point of the way near to it shows that a point is near to the line
beside : (u v s t k m r : ℤ) → pos 0 <ℤ m →
    (square (m *ℤ u -ℤ k *ℤ s) +ℤ square (m *ℤ v -ℤ k *ℤ t)) ≤ℤ square (m *ℤ r) → square (v *ℤ s -ℤ u *ℤ t) ≤ℤ (square r *ℤ (square s +ℤ square t))
beside u v s t k m r some near =
    let q = square (m *ℤ u -ℤ k *ℤ s) +ℤ square (m *ℤ v -ℤ k *ℤ t) in
    let d = square s +ℤ square t in
    let both = lagrange (m *ℤ u -ℤ k *ℤ s) (m *ℤ v -ℤ k *ℤ t) s t in
    let most : (q *ℤ d) ≤ℤ (square (m *ℤ r) *ℤ d) = rw (mul-comm q d, mul-comm (square (m *ℤ r)) d) (times d q (square (m *ℤ r)) (sum-nonneg s t) near) in
    cancel (square m) (square (v *ℤ s -ℤ u *ℤ t)) (square r *ℤ d) (square-pos m some)
    (rw (← square-mul m (v *ℤ s -ℤ u *ℤ t), ← aside-way u v s t k m, ← mul-assoc (square m) (square r) d, ← square-mul m r)
    (go (square ((m *ℤ u -ℤ k *ℤ s) *ℤ s +ℤ (m *ℤ v -ℤ k *ℤ t) *ℤ t)) (square ((m *ℤ v -ℤ k *ℤ t) *ℤ s -ℤ (m *ℤ u -ℤ k *ℤ s) *ℤ t)) (q *ℤ d) (square (m *ℤ r) *ℤ d)
    (square-nonneg ((m *ℤ u -ℤ k *ℤ s) *ℤ s +ℤ (m *ℤ v -ℤ k *ℤ t) *ℤ t)) both most))
  where
    go : (a b c d : ℤ) → pos 0 ≤ℤ a → a +ℤ b ≡ c → c ≤ℤ d → b ≤ℤ d
    go a b c d p e h = omega (arith, ints)

-- the foot of the perpendicular is the point of the way that is as near
foot : (u v s t r : ℤ) → pos 0 <ℤ (square s +ℤ square t) → square (v *ℤ s -ℤ u *ℤ t) ≤ℤ (square r *ℤ (square s +ℤ square t)) →
    (square ((square s +ℤ square t) *ℤ u -ℤ (u *ℤ s +ℤ v *ℤ t) *ℤ s) +ℤ square ((square s +ℤ square t) *ℤ v -ℤ (u *ℤ s +ℤ v *ℤ t) *ℤ t))
    ≤ℤ square ((square s +ℤ square t) *ℤ r)
foot u v s t r some close =
    let d = square s +ℤ square t in
    let k = u *ℤ s +ℤ v *ℤ t in
    let c = v *ℤ s -ℤ u *ℤ t in
    let q = square (d *ℤ u -ℤ k *ℤ s) +ℤ square (d *ℤ v -ℤ k *ℤ t) in
    let both = lagrange (d *ℤ u -ℤ k *ℤ s) (d *ℤ v -ℤ k *ℤ t) s t in
    let none : (d *ℤ u -ℤ k *ℤ s) *ℤ s +ℤ (d *ℤ v -ℤ k *ℤ t) *ℤ t ≡ pos 0 = along-way u v s t k d ∙ zero (d *ℤ k) (k *ℤ d) (mul-comm d k) in
    let all : d *ℤ q ≡ d *ℤ (d *ℤ square c) =
    mul-comm d q ∙ (sym both ∙ (rw (none, aside-way u v s t k d, square-mul d c) (nothing (square d *ℤ square c)) ∙ mul-assoc d d (square c))) in
    let less : (d *ℤ square c) ≤ℤ (d *ℤ (square r *ℤ d)) = times d (square c) (square r *ℤ d) (omega (arith, ints)) close in
    let same : d *ℤ (square r *ℤ d) ≡ square (d *ℤ r) = ap (λ z. d *ℤ z) (mul-comm (square r) d) ∙ (sym (mul-assoc d d (square r)) ∙ sym (square-mul d r)) in
    rw (← same) (under q (d *ℤ square c) (d *ℤ (square r *ℤ d)) (cancel d q (d *ℤ square c) some (equal (d *ℤ q) (d *ℤ (d *ℤ square c)) all)) less)
  where
    zero : (a b : ℤ) → a ≡ b → a -ℤ b ≡ pos 0
    zero a b e = omega (arith, ints)

    nothing : (a : ℤ) → square (pos 0) +ℤ a ≡ a
    nothing a = omega (arith, ints)

    equal : (a b : ℤ) → a ≡ b → a ≤ℤ b
    equal a b e = omega (arith, ints)

    under : (a b c : ℤ) → a ≤ℤ b → b ≤ℤ c → a ≤ℤ c
    under a b c p q = omega (arith, ints)

-- the same point of the way, from the other end
other-end : (u s k m : ℤ) → m *ℤ (u -ℤ s) -ℤ (m -ℤ k) *ℤ neg_ℤ s ≡ m *ℤ u -ℤ k *ℤ s
other-end u s k m = rw (mul-sub m u s, mul-neg (m -ℤ k) s, sub-mul m k s) (go (m *ℤ u) (m *ℤ s) (k *ℤ s))
  where
    go : (a b c : ℤ) → (a -ℤ b) -ℤ neg_ℤ (b -ℤ c) ≡ a -ℤ c
    go a b c = omega (arith, ints)

pub along-back : (u v s t : ℤ) → (u -ℤ s) *ℤ neg_ℤ s +ℤ (v -ℤ t) *ℤ neg_ℤ t ≡ (square s +ℤ square t) -ℤ (u *ℤ s +ℤ v *ℤ t)
along-back u v s t = rw (mul-neg (u -ℤ s) s, mul-neg (v -ℤ t) t, sub-mul u s s, sub-mul v t t) (go (u *ℤ s) (s *ℤ s) (v *ℤ t) (t *ℤ t))
  where
    go : (a b c d : ℤ) → neg_ℤ (a -ℤ b) +ℤ neg_ℤ (c -ℤ d) ≡ (b +ℤ d) -ℤ (a +ℤ c)
    go a b c d = omega (arith, ints)

-- a point past the other end is no nearer to a point of the way before it
behind : (u v s t k m r : ℤ) → pos 0 <ℤ m → k ≤ℤ m → (square s +ℤ square t) ≤ℤ (u *ℤ s +ℤ v *ℤ t) →
    (square (m *ℤ u -ℤ k *ℤ s) +ℤ square (m *ℤ v -ℤ k *ℤ t)) ≤ℤ square (m *ℤ r) → (square (u -ℤ s) +ℤ square (v -ℤ t)) ≤ℤ square r
behind u v s t k m r some most past near =
    before (u -ℤ s) (v -ℤ t) (neg_ℤ s) (neg_ℤ t) (m -ℤ k) m r some (omega (arith, ints)) (rw (along-back u v s t) (omega (arith, ints)))
    (rw (other-end u s k m, other-end v t k m) near)

-- a part of the way, and what is near to it
one-none : (u s : ℤ) → pos 1 *ℤ u -ℤ pos 0 *ℤ s ≡ u
one-none u s = omega (arith, ints)

one-one : (u s : ℤ) → pos 1 *ℤ u -ℤ pos 1 *ℤ s ≡ u -ℤ s
one-one u s = omega (arith, ints)

one : (r : ℤ) → pos 1 *ℤ r ≡ r
one r = omega (arith, ints)

at-first : (u v s t r : ℤ) → (square u +ℤ square v) ≤ℤ square r →
    (square (pos 1 *ℤ u -ℤ pos 0 *ℤ s) +ℤ square (pos 1 *ℤ v -ℤ pos 0 *ℤ t)) ≤ℤ square (pos 1 *ℤ r)
at-first u v s t r h = rw (one-none u s, one-none v t, one r) h

at-last : (u v s t r : ℤ) → (square (u -ℤ s) +ℤ square (v -ℤ t)) ≤ℤ square r →
    (square (pos 1 *ℤ u -ℤ pos 1 *ℤ s) +ℤ square (pos 1 *ℤ v -ℤ pos 1 *ℤ t)) ≤ℤ square (pos 1 *ℤ r)
at-last u v s t r h = rw (one-one u s, one-one v t, one r) h

-- the distance from the other end, by that from the first one
past-end : (a b x : ℤ) → (x -ℤ a) -ℤ (b -ℤ a) ≡ x -ℤ b
past-end a b x = omega (arith, ints)

pub from-end : (e : EdgeEnds) (p : DevicePoint) →
    square ((p.x -ℤ e.from.x) -ℤ (e.to.x -ℤ e.from.x)) +ℤ square ((p.y -ℤ e.from.y) -ℤ (e.to.y -ℤ e.from.y)) ≡ apart e.to p
from-end e p = rw (past-end e.from.x e.to.x p.x, past-end e.from.y e.to.y p.y)

-- what is near to an end, or beside the edge, is near to a point of it
first-near : (w : ℕ) (e : EdgeEnds) (p : DevicePoint) → is_round w e.from p ≡ true → IsNear w e p (pos 0) (pos 1)
first-near w e p h = record {
  some = omega (arith, ints);
  least = omega (arith, ints);
  most = omega (arith, ints);
  near = at-first (p.x -ℤ e.from.x) (p.y -ℤ e.from.y) (e.to.x -ℤ e.from.x) (e.to.y -ℤ e.from.y) (pos (8 * w)) (le_of (apart e.from p) (square_of_half w) h);
}

last-near : (w : ℕ) (e : EdgeEnds) (p : DevicePoint) → is_round w e.to p ≡ true → IsNear w e p (pos 1) (pos 1)
last-near w e p h = record {
  some = omega (arith, ints);
  least = omega (arith, ints);
  most = omega (arith, ints);
  near = at-last (p.x -ℤ e.from.x) (p.y -ℤ e.from.y) (e.to.x -ℤ e.from.x) (e.to.y -ℤ e.from.y) (pos (8 * w))
      (rw (from-end e p) (le_of (apart e.to p) (square_of_half w) h));
}

beside-near : (w : ℕ) (e : EdgeEnds) (p : DevicePoint) → is_abreast e p ≡ true → is_close w e p ≡ true → IsNear w e p (along e p) (apart e.from e.to)
beside-near w e p h g =
    let ends = and_parts (int_lt (pos 0) (along e p)) (int_lt (along e p) (apart e.from e.to)) h in
    let more = lt_of (pos 0) (along e p) ends.0 in
    let less = lt_of (along e p) (apart e.from e.to) ends.1 in
    record {
      some = omega (arith, ints, more, less);
      least = omega (arith, ints, more);
      most = omega (arith, ints, less);
      near = foot (p.x -ℤ e.from.x) (p.y -ℤ e.from.y) (e.to.x -ℤ e.from.x) (e.to.y -ℤ e.from.y) (pos (8 * w)) (omega (arith, ints, more, less))
          (le_of (square (aside e p)) (square_of_half w *ℤ apart e.from e.to) g);
    }

-- one of three tests passes
pub three-parts : (s t u : Bool) → ((s || t) || u) ≡ true → (s ≡ true) ⊎ ((t ≡ true) ⊎ (u ≡ true))
three-parts true t u h = inl refl
three-parts false true u h = inr (inl refl)
three-parts false false u h = inr (inr h)

pub covered-near : (w : ℕ) (e : EdgeEnds) (p : DevicePoint) → covers_round w e p ≡ true → (k : ℤ) × (m : ℤ) × IsNear w e p k m
unfolding covers_round
covered-near w e p h = ⊎_elim
    (λ first. (pos 0, pos 1, first-near w e p first))
    (λ rest. ⊎_elim
    (λ last. (pos 1, pos 1, last-near w e p last))
    (λ beside. let both = and_parts (is_abreast e p) (is_close w e p) beside in (along e p, apart e.from e.to, beside-near w e p both.0 both.1)) rest)
    (three-parts (is_round w e.from p) (is_round w e.to p) (is_abreast e p && is_close w e p) h)

-- and what is near to a point of it is so
pub near-covered : (w : ℕ) (e : EdgeEnds) (p : DevicePoint) (k m : ℤ) → IsNear w e p k m → covers_round w e p ≡ true
unfolding covers_round
near-covered w e p k m is = go (int_le (along e p) (pos 0)) refl
  where
    u : ℤ
    u = p.x -ℤ e.from.x

    v : ℤ
    v = p.y -ℤ e.from.y

    s : ℤ
    s = e.to.x -ℤ e.from.x

    t : ℤ
    t = e.to.y -ℤ e.from.y

    between : (a : Bool) → int_le (apart e.from e.to) (along e p) ≡ a → int_le (along e p) (pos 0) ≡ false →
        ((is_round w e.from p || is_round w e.to p) || (is_abreast e p && is_close w e p)) ≡ true
    between true past more =
        let less = behind u v s t k m (pos (8 * w)) is.some is.most (le_of (apart e.from e.to) (along e p) past) is.near in
        or_left (is_round w e.from p || is_round w e.to p) (is_abreast e p && is_close w e p)
        (or_right (is_round w e.from p) (is_round w e.to p) (is_le (apart e.to p) (square_of_half w) (rw (from-end e p) at less)))
    between false short more =
        or_right (is_round w e.from p || is_round w e.to p) (is_abreast e p && is_close w e p)
        (and_from (is_abreast e p) (is_close w e p)
        (and_from (int_lt (pos 0) (along e p)) (int_lt (along e p) (apart e.from e.to))
        (is_lt (pos 0) (along e p) (not_le_of (along e p) (pos 0) more))
        (is_lt (along e p) (apart e.from e.to) (not_le_of (apart e.from e.to) (along e p) short)))
        (is_le (square (aside e p)) (square_of_half w *ℤ apart e.from e.to) (beside u v s t k m (pos (8 * w)) is.some is.near)))

    go : (a : Bool) → int_le (along e p) (pos 0) ≡ a → ((is_round w e.from p || is_round w e.to p) || (is_abreast e p && is_close w e p)) ≡ true
    go true least =
        or_left (is_round w e.from p || is_round w e.to p) (is_abreast e p && is_close w e p)
        (or_left (is_round w e.from p) (is_round w e.to p)
        (is_le (apart e.from p) (square_of_half w) (before u v s t k m (pos (8 * w)) is.some is.least (le_of (along e p) (pos 0) least) is.near)))
    go false more = between (int_le (apart e.from e.to) (along e p)) refl more

pub near-law : RoundSegmentsAreNear
near-law w e p = (covered-near w e p, λ some. near-covered w e p some.0 some.1 some.2)

-- a segment covers the same back
pub back-law : RoundSegmentsAreSameBack
back-law w a b p = same_test (covers_round w (record { from = b; to = a }) p) (covers_round w (record { from = a; to = b }) p) (turn b a) (turn a b)
  where
    other : (a b x k m : ℤ) → m *ℤ (x -ℤ b) -ℤ (m -ℤ k) *ℤ (a -ℤ b) ≡ m *ℤ (x -ℤ a) -ℤ k *ℤ (b -ℤ a)
    other a b x k m =
        let one : x -ℤ b ≡ (x -ℤ a) -ℤ (b -ℤ a) = omega (arith, ints) in
        let two : a -ℤ b ≡ neg_ℤ (b -ℤ a) = omega (arith, ints) in
        rw (one, two) (other-end (x -ℤ a) (b -ℤ a) k m)

    turned : (a b : DevicePoint) (k m : ℤ) → IsNear w (record { from = a; to = b }) p k m → IsNear w (record { from = b; to = a }) p (m -ℤ k) m
    turned a b k m is = record {
      some = is.some;
      least = omega (arith, ints, is.most);
      most = omega (arith, ints, is.least);
      near = rw (other a.x b.x p.x k m, other a.y b.y p.y k m) is.near;
    }

    turn : (a b : DevicePoint) → covers_round w (record { from = a; to = b }) p ≡ true → covers_round w (record { from = b; to = a }) p ≡ true
    turn a b h =
        let some = covered-near w (record { from = a; to = b }) p h in
        near-covered w (record { from = b; to = a }) p (some.1 -ℤ some.0) some.1 (turned a b some.0 some.1 some.2)

-- one of no length covers a disc
pub disc-law : RoundPointsAreDiscs
disc-law w a p = same_test (covers_round w (point_edge a) p) (is_round w a p) there back
  where
    none : (x a : ℤ) → (x -ℤ a) *ℤ (a -ℤ a) ≡ pos 0
    none x a = let zero : a -ℤ a ≡ pos 0 = omega (arith, ints) in rw zero (omega (arith, ints, mul-comm (x -ℤ a) (pos 0)))

    there : covers_round w (point_edge a) p ≡ true → is_round w a p ≡ true
    there h =
        let some = covered-near w (point_edge a) p h in
        let is = some.2 in
        let level : along (point_edge a) p ≡ pos 0 = rw (none p.x a.x, none p.y a.y) (omega (arith, ints)) in
        is_le (apart a p) (square_of_half w)
        (before (p.x -ℤ a.x) (p.y -ℤ a.y) (a.x -ℤ a.x) (a.y -ℤ a.y) some.0 some.1 (pos (8 * w)) is.some is.least (omega (arith, ints, level)) is.near)

    back : is_round w a p ≡ true → covers_round w (point_edge a) p ≡ true
    back h = near-covered w (point_edge a) p (pos 0) (pos 1) (first-near w (point_edge a) p h)
