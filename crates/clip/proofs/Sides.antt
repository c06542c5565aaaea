-- On which side of a point an edge crosses its height.
use Rattle.std.proofs.Common.{◌≡◌, ◌∙◌, Bool, true, false, not, ◌&&◌, if◌then◌else◌, refl, sym, arith}
use Rattle.std.proofs.lemmas.Bool.{and_parts, not-true}
use Rattle.std.proofs.lemmas.Int.{ints}
use Rattle.std.specs.Prelude.{int_le}
use lib.IntN.{ℤ, pos, ◌+ℤ◌, ◌-ℤ◌, ◌*ℤ◌}
use lib.Signed.{◌<ℤ◌, ◌≤ℤ◌}
use Rattle.geom.specs.Device.{DevicePoint}
use Rattle.geom.specs.Edge.{EdgeEnds, low_end, high_end, rise, run, crosses_height, meets_at_or_left, crosses_at_or_left}
use Rattle.geom.proofs.Products.{mul-comm, mul-add, mul-sub, product_nonneg, product_nonpos, product_negative, le_of, not_le_of, is_le, is_not_le, same_order}

-- an edge crosses a height that its upper end is at or above and its lower end is below
pub crosses-ends : (e : EdgeEnds) (y : ℤ) → crosses_height e y ≡ (int_le (low_end e).y y && not (int_le (high_end e).y y))
crosses-ends e y = go e.from e.to y (int_le e.from.y e.to.y) (int_le e.from.y y) (int_le e.to.y y) refl refl refl
  where
    go : (a b : DevicePoint) (y : ℤ) (o s t : Bool) → int_le a.y b.y ≡ o → int_le a.y y ≡ s → int_le b.y y ≡ t →
        (if s then not t else t) ≡ (int_le (if o then a else b).y y && not (int_le (if o then b else a).y y))
    go a b y true true t e f g = rw (f, g)
    go a b y true false true e f g = absurd (omega (arith, ints))
    go a b y true false false e f g = rw f
    go a b y false true true e f g = rw (g, f)
    go a b y false true false e f g = absurd (omega (arith, ints))
    go a b y false false true e f g = rw (g, f)
    go a b y false false false e f g = rw g

-- so that height lies between its ends
pub crosses-between : (e : EdgeEnds) (y : ℤ) → crosses_height e y ≡ true → ((low_end e).y ≤ℤ y) × (y <ℤ (high_end e).y)
crosses-between e y h =
    let both = and_parts (int_le (low_end e).y y) (not (int_le (high_end e).y y)) (sym (crosses-ends e y) ∙ h) in
    (le_of (low_end e).y y both.0, not_le_of (high_end e).y y (not-true (int_le (high_end e).y y) both.1))

-- an edge that crosses a height goes down
pub crosses-rise : (e : EdgeEnds) (y : ℤ) → crosses_height e y ≡ true → pos 0 <ℤ rise e
crosses-rise e y h = let between = crosses-between e y h in omega (arith, ints, between.0, between.1)

-- the test of the side, by how far the point is below the upper end and above the lower one, and right of both
meets-sides : (u v a b run rise : ℤ) → run ≡ a -ℤ b → rise ≡ u +ℤ v → int_le (u *ℤ run) (a *ℤ rise) ≡ int_le (pos 0) (a *ℤ v +ℤ u *ℤ b)
meets-sides u v a b run rise e f = rw (e, f) (same_order (u *ℤ (a -ℤ b)) (a *ℤ (u +ℤ v)) (pos 0) (a *ℤ v +ℤ u *ℤ b)
    (λ (h : (u *ℤ (a -ℤ b)) ≤ℤ (a *ℤ (u +ℤ v))). omega (arith, ints, mul-sub u a b, mul-add a u v, mul-comm u a))
    (λ (h : pos 0 ≤ℤ (a *ℤ v +ℤ u *ℤ b)). omega (arith, ints, mul-sub u a b, mul-add a u v, mul-comm u a)))

-- the same of an edge
meets-ends : (e : EdgeEnds) (p : DevicePoint) → meets_at_or_left p e
    ≡ int_le (pos 0) ((p.x -ℤ (low_end e).x) *ℤ ((high_end e).y -ℤ p.y) +ℤ (p.y -ℤ (low_end e).y) *ℤ (p.x -ℤ (high_end e).x))
meets-ends e p = meets-sides (p.y -ℤ (low_end e).y) ((high_end e).y -ℤ p.y) (p.x -ℤ (low_end e).x) (p.x -ℤ (high_end e).x) (run e) (rise e)
    (omega (arith, ints)) (omega (arith, ints))

right-meets : (u v a b : ℤ) → pos 0 ≤ℤ u → pos 0 <ℤ v → a <ℤ pos 0 → b <ℤ pos 0 → int_le (pos 0) (a *ℤ v +ℤ u *ℤ b) ≡ false
right-meets u v a b p q left right =
    is_not_le (pos 0) (a *ℤ v +ℤ u *ℤ b)
    (omega (arith, ints, product_negative a v left q, product_nonpos b u (omega (arith, ints)) p, mul-comm u b))

left-meets : (u v a b : ℤ) → pos 0 ≤ℤ u → pos 0 <ℤ v → pos 0 ≤ℤ a → pos 0 ≤ℤ b → int_le (pos 0) (a *ℤ v +ℤ u *ℤ b) ≡ true
left-meets u v a b p q left right =
    is_le (pos 0) (a *ℤ v +ℤ u *ℤ b) (omega (arith, ints, product_nonneg a v left (omega (arith, ints)), product_nonneg u b p right))

-- an edge whose ends both lie right of a point doesn't cross its height at it or left of it
pub right-crosses : (e : EdgeEnds) (p : DevicePoint) → p.x <ℤ (low_end e).x → p.x <ℤ (high_end e).x → crosses_at_or_left p e ≡ false
right-crosses e p left right = go (crosses_height e p.y) refl
  where
    go : (t : Bool) → crosses_height e p.y ≡ t → (t && meets_at_or_left p e) ≡ false
    go false h = refl
    go true h =
        let between = crosses-between e p.y h in
        meets-ends e p
        ∙ right-meets (p.y -ℤ (low_end e).y) ((high_end e).y -ℤ p.y) (p.x -ℤ (low_end e).x) (p.x -ℤ (high_end e).x)
        (omega (arith, ints, between.0)) (omega (arith, ints, between.1)) (omega (arith, ints)) (omega (arith, ints))

-- one whose ends both lie at its x or left of it crosses there, if it crosses the height
pub left-crosses : (e : EdgeEnds) (p : DevicePoint) → (low_end e).x ≤ℤ p.x → (high_end e).x ≤ℤ p.x → crosses_at_or_left p e ≡ crosses_height e p.y
left-crosses e p left right = go (crosses_height e p.y) refl
  where
    go : (t : Bool) → crosses_height e p.y ≡ t → (t && meets_at_or_left p e) ≡ t
    go false h = refl
    go true h =
        let between = crosses-between e p.y h in
        meets-ends e p
        ∙ left-meets (p.y -ℤ (low_end e).y) ((high_end e).y -ℤ p.y) (p.x -ℤ (low_end e).x) (p.x -ℤ (high_end e).x)
        (omega (arith, ints, between.0)) (omega (arith, ints, between.1)) (omega (arith, ints)) (omega (arith, ints))
