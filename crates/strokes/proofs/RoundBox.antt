-- A round segment covers nothing more than half its width outside of the box of its ends.
use Rattle.std.proofs.Common.{◌≡◌, ◌∙◌, ℕ, ◌*◌, Bool, true, false, refl, sym, arith}
use Rattle.std.proofs.lemmas.Bool.{and_from, and_parts}
use Rattle.std.proofs.lemmas.Int.{int_max_is, int_min_is, ints}
use Rattle.std.specs.Int.{int_max, int_min}
use Rattle.std.specs.Prelude.{int_le}
use lib.IntN.{ℤ, pos, neg_ℤ, ◌+ℤ◌, ◌-ℤ◌, ◌*ℤ◌}
use lib.Signed.{◌<ℤ◌, ◌≤ℤ◌}
use Rattle.geom.specs.Edge.{EdgeEnds}
use Rattle.geom.proofs.Products.{is_le, le_of, mul-add, mul-comm, mul-neg, product_nonneg}
use Rattle.strokes.specs.Round.{IsRoot, covers_round, is_about, square}
use Rattle.strokes.proofs.Rounded.{root-test}
use Rattle.strokes.proofs.RoundNear.{covered-near}
use Rattle.strokes.proofs.Squares.{cancel, square-add, square-nonneg, times}

root-of-square : (b : ℤ) → pos 0 ≤ℤ b → IsRoot (square b) b
root-of-square b h = record { least = h; most = omega (arith, ints); next = rw (square-add b (pos 1)) (more (square b) (b *ℤ pos 1) (omega (arith, ints, h))) }
  where
    more : (s t : ℤ) → pos 0 ≤ℤ t → s <ℤ (s +ℤ pos 2 *ℤ t +ℤ square (pos 1))
    more s t p = omega (arith, ints, p)

within : (a b : ℤ) → pos 0 ≤ℤ b → square a ≤ℤ square b → (neg_ℤ b ≤ℤ a) × (a ≤ℤ b)
within a b some h =
    let both = and_parts (int_le (neg_ℤ b) a) (int_le a b) (sym (root-test (square b) b a (root-of-square b some)) ∙ is_le (square a) (square b) h) in
    (le_of (neg_ℤ b) a both.0, le_of a b both.1)

-- what is near to a point of the way is at most as much past both ends
past : (m k v t r g : ℤ) → pos 0 <ℤ m → pos 0 ≤ℤ k → k ≤ℤ m → t ≤ℤ g → pos 0 ≤ℤ g → (m *ℤ v -ℤ k *ℤ t) ≤ℤ (m *ℤ r) → v ≤ℤ (r +ℤ g)
past m k v t r g some least most p q h =
    let one = times k t g least p in
    let two = times g k m q most in
    cancel m v (r +ℤ g) some (omega (arith, ints, one, two, h, mul-add m r g, mul-comm g k, mul-comm g m))

about : (w : ℕ) (f t z k m : ℤ) → pos 0 <ℤ m → pos 0 ≤ℤ k → k ≤ℤ m → square (m *ℤ (z -ℤ f) -ℤ k *ℤ (t -ℤ f)) ≤ℤ square (m *ℤ pos (8 * w)) → is_about w f t z ≡ true
about w f t z k m some least most h =
    let r = pos (8 * w) in
    let both = within (m *ℤ (z -ℤ f) -ℤ k *ℤ (t -ℤ f)) (m *ℤ r) (product_nonneg m r (omega (arith, ints)) (omega (arith, ints))) h in
    let high = past m k (z -ℤ f) (t -ℤ f) r (int_max f t -ℤ f) some least most (omega (arith, ints, int_max_is f t)) (omega (arith, ints, int_max_is f t)) both.1 in
    let back : (m *ℤ neg_ℤ (z -ℤ f) -ℤ k *ℤ neg_ℤ (t -ℤ f)) ≤ℤ (m *ℤ r) = rw (mul-neg m (z -ℤ f), mul-neg k (t -ℤ f)) (opposite (m *ℤ (z -ℤ f)) (k *ℤ (t -ℤ f)) (m *ℤ r) both.0) in
    let low = past m k (neg_ℤ (z -ℤ f)) (neg_ℤ (t -ℤ f)) r (f -ℤ int_min f t) some least most (omega (arith, ints, int_min_is f t)) (omega (arith, ints, int_min_is f t)) back in
    and_from (int_le (int_min f t -ℤ r) z) (int_le z (int_max f t +ℤ r))
    (is_le (int_min f t -ℤ r) z (under z (int_min f t) r low)) (is_le z (int_max f t +ℤ r) (over z (int_max f t) r high))
  where
    opposite : (a b c : ℤ) → neg_ℤ c ≤ℤ (a -ℤ b) → (neg_ℤ a -ℤ neg_ℤ b) ≤ℤ c
    opposite a b c h = omega (arith, ints, h)

    under : (z n r : ℤ) → neg_ℤ (z -ℤ f) ≤ℤ (r +ℤ (f -ℤ n)) → (n -ℤ r) ≤ℤ z
    under z n r h = omega (arith, ints, h)

    over : (z n r : ℤ) → (z -ℤ f) ≤ℤ (r +ℤ (n -ℤ f)) → z ≤ℤ (n +ℤ r)
    over z n r h = omega (arith, ints, h)

-- one of two squares is at most their sum
first-least : (a b c : ℤ) → pos 0 ≤ℤ b → (a +ℤ b) ≤ℤ c → a ≤ℤ c
first-least a b c p h = omega (arith, ints, p, h)

second-least : (a b c : ℤ) → pos 0 ≤ℤ a → (a +ℤ b) ≤ℤ c → b ≤ℤ c
second-least a b c p h = omega (arith, ints, p, h)

covered-about : (w : ℕ) (e : EdgeEnds) (x y : ℤ) → covers_round w e (record { x = x; y = y }) ≡ true →
    (is_about w e.from.x e.to.x x ≡ true) × (is_about w e.from.y e.to.y y ≡ true)
covered-about w e x y h =
    let some = covered-near w e (record { x = x; y = y }) h in
    let k = some.0 in
    let m = some.1 in
    let is = some.2 in
    let across = square (m *ℤ (x -ℤ e.from.x) -ℤ k *ℤ (e.to.x -ℤ e.from.x)) in
    let down = square (m *ℤ (y -ℤ e.from.y) -ℤ k *ℤ (e.to.y -ℤ e.from.y)) in
    let most = square (m *ℤ pos (8 * w)) in (
      about w e.from.x e.to.x x k m is.some is.least is.most (first-least across down most (square-nonneg (m *ℤ (y -ℤ e.from.y) -ℤ k *ℤ (e.to.y -ℤ e.from.y))) is.near),
      about w e.from.y e.to.y y k m is.some is.least is.most (second-least across down most (square-nonneg (m *ℤ (x -ℤ e.from.x) -ℤ k *ℤ (e.to.x -ℤ e.from.x))) is.near),
    )

-- a test that another one follows fails where that one does
pub fails : (s t : Bool) → (s ≡ true → t ≡ true) → t ≡ false → s ≡ false
fails true true f e = e
fails false t f e = refl
fails true false f e = sym (f refl)

pub not-across : (w : ℕ) (e : EdgeEnds) (x y : ℤ) → is_about w e.from.x e.to.x x ≡ false → covers_round w e (record { x = x; y = y }) ≡ false
not-across w e x y none = fails (covers_round w e (record { x = x; y = y })) (is_about w e.from.x e.to.x x) (λ h. (covered-about w e x y h).0) none

pub not-down : (w : ℕ) (e : EdgeEnds) (x y : ℤ) → is_about w e.from.y e.to.y y ≡ false → covers_round w e (record { x = x; y = y }) ≡ false
not-down w e x y none = fails (covers_round w e (record { x = x; y = y })) (is_about w e.from.y e.to.y y) (λ h. (covered-about w e x y h).1) none
