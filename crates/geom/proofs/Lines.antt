-- Where an edge's line meets a height.
use Rattle.std.proofs.Common.{◌≡◌, ◌∙◌, Bool, true, false, not, if◌then◌else◌, refl, sym, ap, arith}
use Rattle.std.proofs.lemmas.Bool.{and_from, and_parts}
use Rattle.std.proofs.lemmas.Int.{ints}
use Rattle.std.specs.Prelude.{int_le}
use lib.IntN.{ℤ, pos, neg_ℤ, ◌-ℤ◌, ◌*ℤ◌}
use lib.Signed.{◌<ℤ◌, ◌≤ℤ◌}
use Rattle.geom.specs.Device.{DevicePoint}
use Rattle.geom.specs.Edge.{EdgeEnds, crosses_at_or_left, crosses_height, low_end, meets_at_or_left, rise, run}
use Rattle.geom.specs.Laws.{IsOnLine}
use Rattle.geom.proofs.Products.{le_of, is_le, mul-comm, mul-left_comm, mul-neg, mul-sub, not_le_of, product_negative, product_nonneg, same_order, sub-mul}

-- the order of two numbers is that of their products with a number above 0
times-le : (a b k : ℤ) → pos 0 <ℤ k → a ≤ℤ b → (a *ℤ k) ≤ℤ (b *ℤ k)
times-le a b k some le = omega (arith, ints, product_nonneg (b -ℤ a) k (omega (arith, ints)) (omega (arith, ints)), sub-mul b a k)

cancel-le : (a b k : ℤ) → pos 0 <ℤ k → (a *ℤ k) ≤ℤ (b *ℤ k) → a ≤ℤ b
cancel-le a b k some le = go (int_le a b) refl
  where
    go : (t : Bool) → int_le a b ≡ t → a ≤ℤ b
    go true e = le_of a b e
    go false e = absurd (omega (arith, ints, product_negative (b -ℤ a) k (omega (arith, ints, not_le_of a b e)) some, sub-mul b a k))

-- an edge doesn't rise by less than 0
rise-some : (e : EdgeEnds) → pos 0 ≤ℤ rise e
rise-some e = go (int_le e.from.y e.to.y) refl
  where
    go : (t : Bool) → int_le e.from.y e.to.y ≡ t → pos 0 ≤ℤ ((if t then e.to else e.from).y -ℤ (if t then e.from else e.to).y)
    go true h = omega (arith, ints, le_of e.from.y e.to.y h)
    go false h = omega (arith, ints, not_le_of e.from.y e.to.y h)

-- a point further right is right of all that the one before it is right of
further : (u run rise a b : ℤ) → pos 0 ≤ℤ rise → a ≤ℤ b → (u *ℤ run) ≤ℤ (a *ℤ rise) → (u *ℤ run) ≤ℤ (b *ℤ rise)
further u run rise a b some le h = omega (arith, ints, product_nonneg (b -ℤ a) rise (omega (arith, ints)) some, sub-mul b a rise)

pub crosses-further : (e : EdgeEnds) (p q : DevicePoint) → q.y ≡ p.y → p.x ≤ℤ q.x → crosses_at_or_left p e ≡ true → crosses_at_or_left q e ≡ true
crosses-further e p q same le h =
    let both = and_parts (crosses_height e p.y) (meets_at_or_left p e) h in
    let meets : int_le ((p.y -ℤ (low_end e).y) *ℤ run e) ((q.x -ℤ (low_end e).x) *ℤ rise e) ≡ true =
    is_le ((p.y -ℤ (low_end e).y) *ℤ run e) ((q.x -ℤ (low_end e).x) *ℤ rise e)
    (further (p.y -ℤ (low_end e).y) (run e) (rise e) (p.x -ℤ (low_end e).x) (q.x -ℤ (low_end e).x) (rise-some e) (omega (arith, ints))
    (le_of ((p.y -ℤ (low_end e).y) *ℤ run e) ((p.x -ℤ (low_end e).x) *ℤ rise e) both.1)) in
    rw same (and_from (crosses_height e p.y) (int_le ((p.y -ℤ (low_end e).y) *ℤ run e) ((q.x -ℤ (low_end e).x) *ℤ rise e)) both.0 meets)

-- the test of the side says on which side of the point the line passes, where the line has the x of n d-ths
line-side : (u run rise n d low x : ℤ) → pos 0 <ℤ rise → pos 0 <ℤ d → (n -ℤ d *ℤ low) *ℤ rise ≡ d *ℤ (u *ℤ run) →
    int_le (u *ℤ run) ((x -ℤ low) *ℤ rise) ≡ int_le n (d *ℤ x)
line-side u run rise n d low x some whole line =
    let right : d *ℤ ((x -ℤ low) *ℤ rise) ≡ (d *ℤ x -ℤ d *ℤ low) *ℤ rise =
    mul-left_comm d (x -ℤ low) rise ∙ (mul-comm (x -ℤ low) (d *ℤ rise) ∙ (mul-comm (d *ℤ rise) (x -ℤ low) ∙ (turn ∙ ap (λ z. z *ℤ rise) (mul-sub d x low)))) in
    same_order (u *ℤ run) ((x -ℤ low) *ℤ rise) n (d *ℤ x)
    (λ (h : (u *ℤ run) ≤ℤ ((x -ℤ low) *ℤ rise)).
    let times : ((u *ℤ run) *ℤ d) ≤ℤ (((x -ℤ low) *ℤ rise) *ℤ d) = times-le (u *ℤ run) ((x -ℤ low) *ℤ rise) d whole h in
    let cut : (n -ℤ d *ℤ low) ≤ℤ (d *ℤ x -ℤ d *ℤ low) =
    cancel-le (n -ℤ d *ℤ low) (d *ℤ x -ℤ d *ℤ low) rise some
    (omega (arith, ints, times, line, right, mul-comm d (u *ℤ run), mul-comm d ((x -ℤ low) *ℤ rise))) in
    omega (arith, ints, cut))
    (λ (h : n ≤ℤ (d *ℤ x)).
    let times : ((n -ℤ d *ℤ low) *ℤ rise) ≤ℤ ((d *ℤ x -ℤ d *ℤ low) *ℤ rise) = times-le (n -ℤ d *ℤ low) (d *ℤ x -ℤ d *ℤ low) rise some (omega (arith, ints)) in
    cancel-le (u *ℤ run) ((x -ℤ low) *ℤ rise) d whole
    (omega (arith, ints, times, line, right, mul-comm d (u *ℤ run), mul-comm d ((x -ℤ low) *ℤ rise))))
  where
    turn : (x -ℤ low) *ℤ (d *ℤ rise) ≡ (d *ℤ (x -ℤ low)) *ℤ rise
    turn = mul-left_comm (x -ℤ low) d rise ∙ (ap (λ z. d *ℤ z) (mul-comm (x -ℤ low) rise) ∙ (mul-left_comm d rise (x -ℤ low) ∙ mul-comm rise (d *ℤ (x -ℤ low))))

-- the same line from the other end
line-turned : (m u run rise d : ℤ) → m *ℤ rise ≡ d *ℤ (u *ℤ run) → (m -ℤ d *ℤ run) *ℤ neg_ℤ rise ≡ d *ℤ ((u -ℤ rise) *ℤ neg_ℤ run)
line-turned m u run rise d line =
    mul-neg (m -ℤ d *ℤ run) rise
    ∙ (ap (λ z. neg_ℤ z) (sub-mul m (d *ℤ run) rise ∙ (ap (λ z. z -ℤ (d *ℤ run) *ℤ rise) line ∙ (ap (λ z. d *ℤ (u *ℤ run) -ℤ z) turn ∙ (sym (mul-sub d (u *ℤ run) (rise *ℤ run)) ∙ ap (λ z. d *ℤ z) (sym (sub-mul u rise run))))))
    ∙ (sym (mul-neg d ((u -ℤ rise) *ℤ run)) ∙ ap (λ z. d *ℤ z) (sym (mul-neg (u -ℤ rise) run))))
  where
    turn : (d *ℤ run) *ℤ rise ≡ d *ℤ (rise *ℤ run)
    turn = mul-comm (d *ℤ run) rise ∙ mul-left_comm rise d run

-- an edge that crosses the height of a point, by the side of its line
pub crosses-line : (e : EdgeEnds) (p : DevicePoint) (n d : ℤ) → pos 0 <ℤ d → IsOnLine e p.y n d → crosses_height e p.y ≡ true →
    crosses_at_or_left p e ≡ int_le n (d *ℤ p.x)
crosses-line e p n d whole line crosses = rw crosses (go (int_le e.from.y e.to.y) refl)
  where
    apart : (s t : Bool) → int_le e.from.y p.y ≡ s → int_le e.to.y p.y ≡ t → (if s then not t else t) ≡ true → e.from.y ≤ℤ e.to.y → e.from.y <ℤ e.to.y
    apart true true f g h le = absurd (cc)
    apart true false f g h le = omega (arith, ints, le_of e.from.y p.y f, not_le_of e.to.y p.y g)
    apart false true f g h le = absurd (omega (arith, ints, not_le_of e.from.y p.y f, le_of e.to.y p.y g))
    apart false false f g h le = absurd (cc)

    go : (t : Bool) → int_le e.from.y e.to.y ≡ t →
        int_le ((p.y -ℤ (if t then e.from else e.to).y) *ℤ ((if t then e.to else e.from).x -ℤ (if t then e.from else e.to).x)) ((p.x -ℤ (if t then e.from else e.to).x) *ℤ ((if t then e.to else e.from).y -ℤ (if t then e.from else e.to).y)) ≡ int_le n (d *ℤ p.x)
    go true h = line-side (p.y -ℤ e.from.y) (e.to.x -ℤ e.from.x) (e.to.y -ℤ e.from.y) n d e.from.x p.x (omega (arith, ints, apart (int_le e.from.y p.y) (int_le e.to.y p.y) refl refl crosses (le_of e.from.y e.to.y h))) whole line
    go false h =
        let rise = e.to.y -ℤ e.from.y in
        let run = e.to.x -ℤ e.from.x in
        let back = line-turned (n -ℤ d *ℤ e.from.x) (p.y -ℤ e.from.y) run rise d line in
        let place : n -ℤ d *ℤ e.from.x -ℤ d *ℤ run ≡ n -ℤ d *ℤ e.to.x = omega (arith, ints, mul-sub d e.to.x e.from.x) in
        let height : p.y -ℤ e.from.y -ℤ rise ≡ p.y -ℤ e.to.y = omega (arith, ints) in
        let up : neg_ℤ rise ≡ e.from.y -ℤ e.to.y = omega (arith, ints) in
        let left : neg_ℤ run ≡ e.from.x -ℤ e.to.x = omega (arith, ints) in
        line-side (p.y -ℤ e.to.y) (e.from.x -ℤ e.to.x) (e.from.y -ℤ e.to.y) n d e.to.x p.x (omega (arith, ints, not_le_of e.from.y e.to.y h)) whole (rw (place, height, up, left) at back)
