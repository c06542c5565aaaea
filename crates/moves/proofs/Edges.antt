-- Edges as they lie from a pixel.
use Rattle.std.proofs.Common.{◌≡◌, ◌∙◌, Bool, true, false, ◌&&◌, if◌then◌else◌, refl, ap, arith}
use Rattle.std.proofs.lemmas.Int.{ints}
use Rattle.std.specs.Prelude.{int_le}
use lib.IntN.{ℤ, pos, ◌+ℤ◌, ◌-ℤ◌, ◌*ℤ◌}
use Rattle.geom.specs.Device.{DevicePoint, PixelValue, pixel_centre, pixel_of}
use Rattle.geom.specs.Edge.{EdgeEnds, crosses_at_or_left, crosses_height, high_end, low_end, meets_at_or_left, rise, run}
use Rattle.moves.specs.Moves.{edge_from, pixel_from, point_from}
use Rattle.moves.proofs.Numbers.{differ, le-from, sixteenth-from}

pub pixel-of : (c : PixelValue) (p : DevicePoint) → pixel_of (point_from c p) ≡ pixel_from c (pixel_of p)
pixel-of c p = rw (sixteenth-from p.x c.i, sixteenth-from p.y c.j) refl

-- a pixel centre is one from the corner too
pub centre-from : (c : PixelValue) (i j : ℤ) → pixel_centre i j ≡ point_from c (pixel_centre (c.i +ℤ i) (c.j +ℤ j))
centre-from c i j =
    let across : pos 16 *ℤ i +ℤ pos 8 ≡ (pos 16 *ℤ (c.i +ℤ i) +ℤ pos 8) -ℤ pos 16 *ℤ c.i = omega (arith, ints) in
    let down : pos 16 *ℤ j +ℤ pos 8 ≡ (pos 16 *ℤ (c.j +ℤ j) +ℤ pos 8) -ℤ pos 16 *ℤ c.j = omega (arith, ints) in
    cc

one-from : (c : PixelValue) (b : Bool) (p q : DevicePoint) → (if b then point_from c p else point_from c q) ≡ point_from c (if b then p else q)
one-from c true p q = refl
one-from c false p q = refl

pub low-from : (c : PixelValue) (e : EdgeEnds) → low_end (edge_from c e) ≡ point_from c (low_end e)
low-from c e = rw (le-from e.from.y e.to.y (pos 16 *ℤ c.j)) (one-from c (int_le e.from.y e.to.y) e.from e.to)

pub high-from : (c : PixelValue) (e : EdgeEnds) → high_end (edge_from c e) ≡ point_from c (high_end e)
high-from c e = rw (le-from e.from.y e.to.y (pos 16 *ℤ c.j)) (one-from c (int_le e.from.y e.to.y) e.to e.from)

pub rise-from : (c : PixelValue) (e : EdgeEnds) → rise (edge_from c e) ≡ rise e
rise-from c e =
    ap (λ (p : DevicePoint). p.y -ℤ (low_end (edge_from c e)).y) (high-from c e)
    ∙ (ap (λ (p : DevicePoint). (point_from c (high_end e)).y -ℤ p.y) (low-from c e) ∙ differ (high_end e).y (low_end e).y (pos 16 *ℤ c.j))

pub run-from : (c : PixelValue) (e : EdgeEnds) → run (edge_from c e) ≡ run e
run-from c e =
    ap (λ (p : DevicePoint). p.x -ℤ (low_end (edge_from c e)).x) (high-from c e)
    ∙ (ap (λ (p : DevicePoint). (point_from c (high_end e)).x -ℤ p.x) (low-from c e) ∙ differ (high_end e).x (low_end e).x (pos 16 *ℤ c.i))

crosses-from : (c : PixelValue) (e : EdgeEnds) (p : DevicePoint) → crosses_height (edge_from c e) (point_from c p).y ≡ crosses_height e p.y
crosses-from c e p = rw (le-from e.from.y p.y (pos 16 *ℤ c.j), le-from e.to.y p.y (pos 16 *ℤ c.j)) refl

-- how far a point lies below the low end, and right of it
pub below-low : (c : PixelValue) (e : EdgeEnds) (p : DevicePoint) → (point_from c p).y -ℤ (low_end (edge_from c e)).y ≡ p.y -ℤ (low_end e).y
below-low c e p = ap (λ (q : DevicePoint). (point_from c p).y -ℤ q.y) (low-from c e) ∙ differ p.y (low_end e).y (pos 16 *ℤ c.j)

pub right-low : (c : PixelValue) (e : EdgeEnds) (p : DevicePoint) → (point_from c p).x -ℤ (low_end (edge_from c e)).x ≡ p.x -ℤ (low_end e).x
right-low c e p = ap (λ (q : DevicePoint). (point_from c p).x -ℤ q.x) (low-from c e) ∙ differ p.x (low_end e).x (pos 16 *ℤ c.i)

-- what is tested of four numbers
meets-by : (a b s r a' b' s' r' : ℤ) → a ≡ a' → b ≡ b' → s ≡ s' → r ≡ r' → int_le (a *ℤ r) (b *ℤ s) ≡ int_le (a' *ℤ r') (b' *ℤ s')
meets-by a b s r a' b' s' r' e f g h = rw (e, f, g, h) refl

meets-from : (c : PixelValue) (e : EdgeEnds) (p : DevicePoint) → meets_at_or_left (point_from c p) (edge_from c e) ≡ meets_at_or_left p e
meets-from c e p =
    meets-by ((point_from c p).y -ℤ (low_end (edge_from c e)).y) ((point_from c p).x -ℤ (low_end (edge_from c e)).x) (rise (edge_from c e)) (run (edge_from c e))
    (p.y -ℤ (low_end e).y) (p.x -ℤ (low_end e).x) (rise e) (run e)
    (below-low c e p) (right-low c e p) (rise-from c e) (run-from c e)

pub both : (a b a' b' : Bool) → a ≡ a' → b ≡ b' → (a && b) ≡ (a' && b')
both a b a' b' e f = rw (e, f) refl

pub crosses-moved : (c : PixelValue) (e : EdgeEnds) (p : DevicePoint) → crosses_at_or_left (point_from c p) (edge_from c e) ≡ crosses_at_or_left p e
crosses-moved c e p =
    both (crosses_height (edge_from c e) (point_from c p).y) (meets_at_or_left (point_from c p) (edge_from c e)) (crosses_height e p.y) (meets_at_or_left p e)
    (crosses-from c e p) (meets-from c e p)
