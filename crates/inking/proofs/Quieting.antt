-- Boxes of the world in which a line needs no painting.
use Rattle.std.proofs.Common.{◌≡◌, ◌∙◌, ℕ, ◌+◌, ◌*◌, ◌%◌, ◌<◌, ◌≤◌, Bool, true, false, ◌||◌, refl, sym, ap, arith}
use Rattle.std.proofs.lemmas.Bool.{and_parts, false≢true, or_from}
use Rattle.std.proofs.lemmas.Int.{by_lt_z, ints}
use Rattle.std.specs.Prelude.{int_le}
use lib.IntN.{ℤ, pos, neg_ℤ, ◌+ℤ◌, ◌-ℤ◌}
use lib.Signed.{◌<ℤ◌, ◌≤ℤ◌}
use Rattle.geom.proofs.Products.{is_le, le_of}
use Rattle.geom.specs.Device.{DevicePoint, PixelValue, pixel_centre, pixel_of}
use Rattle.geom.specs.EvenOdd.{edge_between}
use Rattle.geom.specs.World.{Area, Place}
use Rattle.strokes.specs.Segment.{covers_segment}
use Rattle.strokes.specs.Short.{are_close, are_neighbours}
use Rattle.strokes.specs.Square.{covers_square}
use Rattle.strokes.proofs.Short.{short-law}
use Rattle.strokes.proofs.Sides.{above-both, below-both, left-of-both, right-of-both}
use Rattle.viewport.specs.View.{IsView, ViewValue, across_of, device_point, down_of, window}
use Rattle.inking.specs.Grain.{AreOfPixel}
use Rattle.inking.specs.Stroked.{IsPen, IsQuiet, PenValue, has_place, segment_covers, step_covers, vertex_covers}
use Rattle.vertices.proofs.NearBoxes.{at-east, at-north, at-south, at-west}
use Rattle.vertices.proofs.NearShapes.{square-by}

-- what isn't true is false
not-true : (t : Bool) → (t ≡ true → ⊥) → t ≡ false
not-true true f = absurd (f refl)
not-true false f = refl

-- a place west, east, south or north of the window lies beside the canvas by more than the margin
pub off-west : (view : ViewValue) (w : ℕ) (a : Place) → IsView view → a.x <ℤ (window view w).minx → (device_point view a).x <ℤ neg_ℤ (pos (16 * w))
off-west view w a is h =
    by_lt_z (across_of view a.x) (neg_ℤ (pos (16 * w))) (λ lt. lt) (λ ge. absurd (omega (arith, ints, h, at-west view w a.x is ge)))

pub off-east : (view : ViewValue) (w : ℕ) (a : Place) → IsView view → (window view w).maxx <ℤ a.x → pos (16 * (view.width + w)) ≤ℤ (device_point view a).x
off-east view w a is h =
    by_lt_z (across_of view a.x) (pos (16 * (view.width + w))) (λ lt. absurd (omega (arith, ints, h, at-east view w a.x is lt))) (λ ge. ge)

pub off-south : (view : ViewValue) (w : ℕ) (a : Place) → IsView view → a.y <ℤ (window view w).miny → pos (16 * (view.height + w)) ≤ℤ (device_point view a).y
off-south view w a is h =
    by_lt_z (down_of view a.y) (pos (16 * (view.height + w))) (λ lt. absurd (omega (arith, ints, h, at-south view w a.y is lt))) (λ ge. ge)

pub off-north : (view : ViewValue) (w : ℕ) (a : Place) → IsView view → (window view w).maxy <ℤ a.y → (device_point view a).y <ℤ neg_ℤ (pos (16 * w))
off-north view w a is h =
    by_lt_z (down_of view a.y) (neg_ℤ (pos (16 * w))) (λ lt. lt) (λ ge. absurd (omega (arith, ints, h, at-north view w a.y is ge)))

-- a step beside the canvas covers no pixel of it
step-west : (view : ViewValue) (w : ℕ) (a b : DevicePoint) (i j : ℕ) → i < view.width → j < view.height → a.x <ℤ neg_ℤ (pos (16 * w)) → b.x <ℤ neg_ℤ (pos (16 * w)) →
    step_covers w a b i j ≡ false
step-west view w a b i j column row p q = or_from (covers_segment w (edge_between (a, b)) (pixel_centre (pos i) (pos j))) (vertex_covers w b i j)
    (right-of-both w (edge_between (a, b)) (pixel_centre (pos i) (pos j)) (omega (arith, ints)) (omega (arith, ints)))
    (not-true (vertex_covers w b i j) (λ h. omega (arith, ints, q, (square-by view w b w i j (omega arith) column row h).left)))

step-east : (view : ViewValue) (w : ℕ) (a b : DevicePoint) (i j : ℕ) → 1 ≤ w → i < view.width → j < view.height → pos (16 * (view.width + w)) ≤ℤ a.x → pos (16 * (view.width + w)) ≤ℤ b.x →
    step_covers w a b i j ≡ false
step-east view w a b i j some column row p q = or_from (covers_segment w (edge_between (a, b)) (pixel_centre (pos i) (pos j))) (vertex_covers w b i j)
    (left-of-both w (edge_between (a, b)) (pixel_centre (pos i) (pos j)) some (omega (arith, ints, p, column)) (omega (arith, ints, q, column)))
    (not-true (vertex_covers w b i j) (λ h. omega (arith, ints, q, (square-by view w b w i j (omega arith) column row h).right)))

step-south : (view : ViewValue) (w : ℕ) (a b : DevicePoint) (i j : ℕ) → 1 ≤ w → i < view.width → j < view.height → pos (16 * (view.height + w)) ≤ℤ a.y → pos (16 * (view.height + w)) ≤ℤ b.y →
    step_covers w a b i j ≡ false
step-south view w a b i j some column row p q = or_from (covers_segment w (edge_between (a, b)) (pixel_centre (pos i) (pos j))) (vertex_covers w b i j)
    (above-both w (edge_between (a, b)) (pixel_centre (pos i) (pos j)) some (omega (arith, ints, p, row)) (omega (arith, ints, q, row)))
    (not-true (vertex_covers w b i j) (λ h. omega (arith, ints, q, (square-by view w b w i j (omega arith) column row h).bottom)))

step-north : (view : ViewValue) (w : ℕ) (a b : DevicePoint) (i j : ℕ) → i < view.width → j < view.height → a.y <ℤ neg_ℤ (pos (16 * w)) → b.y <ℤ neg_ℤ (pos (16 * w)) →
    step_covers w a b i j ≡ false
step-north view w a b i j column row p q = or_from (covers_segment w (edge_between (a, b)) (pixel_centre (pos i) (pos j))) (vertex_covers w b i j)
    (below-both w (edge_between (a, b)) (pixel_centre (pos i) (pos j)) (omega (arith, ints)) (omega (arith, ints)))
    (not-true (vertex_covers w b i j) (λ h. omega (arith, ints, q, (square-by view w b w i j (omega arith) column row h).top)))

-- what follows for the places of a box
pub record LiesIn (box : Area) (place : Place) : Type 0 where
  pub west : box.minx ≤ℤ place.x
  pub east : place.x ≤ℤ box.maxx
  pub south : box.miny ≤ℤ place.y
  pub north : place.y ≤ℤ box.maxy

pub lies-in : (box : Area) (place : Place) → has_place box place ≡ true → LiesIn box place
lies-in box place h =
    let both = and_parts _ _ h in
    let across = and_parts (int_le box.minx place.x) (int_le place.x box.maxx) both.0 in
    let down = and_parts (int_le box.miny place.y) (int_le place.y box.maxy) both.1 in
    record {
      west = le_of box.minx place.x across.0;
      east = le_of place.x box.maxx across.1;
      south = le_of box.miny place.y down.0;
      north = le_of place.y box.maxy down.1;
    }

-- the parts of the world beside the picture are quiet
pub quiet-west : (pen : PenValue) (win box : Area) (place : Place) → IsPen pen win → box.maxx <ℤ win.minx → IsQuiet pen place box
quiet-west pen win box place is h a b p q i j column row covers =
    let west = rw is.window_is at h in
    absurd (false≢true (sym (step-west pen.view pen.width (device_point pen.view a) (device_point pen.view b) i j column row
    (off-west pen.view pen.width a is.limits (omega (arith, ints, west, (lies-in box a p).east)))
    (off-west pen.view pen.width b is.limits (omega (arith, ints, west, (lies-in box b q).east)))) ∙ covers))

pub quiet-east : (pen : PenValue) (win box : Area) (place : Place) → IsPen pen win → win.maxx <ℤ box.minx → IsQuiet pen place box
quiet-east pen win box place is h a b p q i j column row covers =
    let east = rw is.window_is at h in
    absurd (false≢true (sym (step-east pen.view pen.width (device_point pen.view a) (device_point pen.view b) i j is.some column row
    (off-east pen.view pen.width a is.limits (omega (arith, ints, east, (lies-in box a p).west)))
    (off-east pen.view pen.width b is.limits (omega (arith, ints, east, (lies-in box b q).west)))) ∙ covers))

pub quiet-south : (pen : PenValue) (win box : Area) (place : Place) → IsPen pen win → box.maxy <ℤ win.miny → IsQuiet pen place box
quiet-south pen win box place is h a b p q i j column row covers =
    let south = rw is.window_is at h in
    absurd (false≢true (sym (step-south pen.view pen.width (device_point pen.view a) (device_point pen.view b) i j is.some column row
    (off-south pen.view pen.width a is.limits (omega (arith, ints, south, (lies-in box a p).north)))
    (off-south pen.view pen.width b is.limits (omega (arith, ints, south, (lies-in box b q).north)))) ∙ covers))

pub quiet-north : (pen : PenValue) (win box : Area) (place : Place) → IsPen pen win → win.maxy <ℤ box.miny → IsQuiet pen place box
quiet-north pen win box place is h a b p q i j column row covers =
    let north = rw is.window_is at h in
    absurd (false≢true (sym (step-north pen.view pen.width (device_point pen.view a) (device_point pen.view b) i j column row
    (off-north pen.view pen.width a is.limits (omega (arith, ints, north, (lies-in box a p).south)))
    (off-north pen.view pen.width b is.limits (omega (arith, ints, north, (lies-in box b q).south)))) ∙ covers))

-- and so is a box of one place
pub quiet-alone : (pen : PenValue) (place : Place) (box : Area) → box.minx ≡ place.x → box.maxx ≡ place.x → box.miny ≡ place.y → box.maxy ≡ place.y → IsQuiet pen place box
quiet-alone pen place box west east south north a b p q i j column row covers =
    rw (alone a (lies-in box a p), alone b (lies-in box b q)) at covers
  where
    alone : (a : Place) → LiesIn box a → a ≡ place
    alone a is =
        let x : a.x ≡ place.x = omega (arith, ints, is.west, is.east, west, east) in
        let y : a.y ≡ place.y = omega (arith, ints, is.south, is.north, south, north) in
        let first : Path Place (record { x = a.x; y = a.y }) (record { x = place.x; y = a.y }) = ap (λ (v : ℤ). the-place v a.y) x in
        let second : Path Place (record { x = place.x; y = a.y }) (record { x = place.x; y = place.y }) = ap (λ (v : ℤ). the-place place.x v) y in
        first ∙ second
      where
        the-place : ℤ → ℤ → Place
        the-place x y = record { x = x; y = y }

-- pixels are no distance from themselves
own-neighbour : (w : ℕ) (p : PixelValue) → are_neighbours w p p ≡ true
own-neighbour w p = rw (close 0 p.i, close w p.j) refl
  where
    close : (n : ℕ) (z : ℤ) → are_close n z z ≡ true
    close n z = rw (is_le (z -ℤ pos n) z (omega (arith, ints)), is_le z (z +ℤ pos n) (omega (arith, ints))) refl

one-pixel : (w : ℕ) (p q r : PixelValue) → p ≡ r → q ≡ r → are_neighbours w p q ≡ true
one-pixel w p q r e f = rw (e, f) (own-neighbour w r)

-- and for an odd width the places of one pixel: a step between them covers the square round it alone
pub quiet-pixel : (pen : PenValue) (place : Place) (box : Area) → pen.width % 2 ≡ 1 → AreOfPixel pen.view box (pixel_of (device_point pen.view place)) → IsQuiet pen place box
quiet-pixel pen place box odd same a b p q i j column row covers =
    let at : Place → DevicePoint = device_point pen.view in
    let w = pen.width in
    let near : are_neighbours w (pixel_of (at a)) (pixel_of (at b)) ≡ true =
    one-pixel w (pixel_of (at a)) (pixel_of (at b)) (pixel_of (at place)) (same a p) (same b q) in
    let first : vertex_covers w (at a) i j ≡ vertex_covers w (at place) i j = ap (λ (z : PixelValue). covers_square (record { pixel = z; size = w }) (pos i) (pos j)) (same a p) in
    let second : vertex_covers w (at b) i j ≡ vertex_covers w (at place) i j = ap (λ (z : PixelValue). covers_square (record { pixel = z; size = w }) (pos i) (pos j)) (same b q) in
    pick (segment_covers w (at a) (at b) i j) (vertex_covers w (at a) i j) (vertex_covers w (at b) i j) (segment_covers w (at place) (at place) i j) (vertex_covers w (at place) i j)
    first second (short-law w (at a) (at b) (pos i) (pos j) odd near) covers
  where
    pick : (s a b t z : Bool) → a ≡ z → b ≡ z → (s ≡ true → (a || b) ≡ true) → (s || b) ≡ true → (t || z) ≡ true
    pick s a b t true e f imp h = or-true t
      where
        or-true : (t : Bool) → (t || true) ≡ true
        or-true true = refl
        or-true false = refl
    pick true true b t false e f imp h = absurd (false≢true (sym e))
    pick true false true t false e f imp h = absurd (false≢true (sym f))
    pick true false false t false e f imp h = absurd (false≢true (imp refl))
    pick false a true t false e f imp h = absurd (false≢true (sym f))
    pick false a false t false e f imp h = absurd (false≢true h)
