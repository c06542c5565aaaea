-- Points all round what covers a pixel: of rings, of squares and of pixmaps.
use Rattle.std.proofs.Common.{◌≡◌, ◌∙◌, ℕ, ◌+◌, ◌-◌, ◌*◌, ◌/◌, ◌<◌, ◌≤◌, Bool, true, false, ◌&&◌, cond, List, [], ◌∷◌, map, Option, None, Some, refl, ap, sym, arith}
use Rattle.std.proofs.Math.Nat.{div-le_self}
use Rattle.std.proofs.lemmas.Bool.{and_parts, or_parts}
use Rattle.std.proofs.lemmas.Int.{ints}
use Rattle.std.proofs.lemmas.List.Folds.{Any-from_list_any}
use Rattle.std.proofs.lemmas.List.Sums.{sum_by-append, sum_by-cons}
use Rattle.std.specs.Int.{int_div_euclid}
use Rattle.std.specs.List.{Contains, count_by, flat_map, list_any, slice_get}
use Rattle.std.specs.Option.{option_and_then}
use Rattle.std.specs.Prelude.{int_le, int_lt}
use lib.IntN.{ℤ, pos, neg_ℤ, ◌+ℤ◌, ◌-ℤ◌}
use lib.Signed.{◌<ℤ◌, ◌≤ℤ◌}
use Rattle.clip.proofs.Sides.{left-crosses, right-crosses}
use Rattle.geom.proofs.Products.{le_of, not_le_of}
use Rattle.geom.proofs.Quotients.{quotient_parts}
use Rattle.geom.proofs.Rings.{closing_edges, ring_edges-closing}
use Rattle.geom.specs.Device.{DevicePoint, pixel_centre, pixel_of}
use Rattle.geom.specs.Edge.{EdgeEnds, crosses_at_or_left, crosses_height}
use Rattle.geom.specs.EvenOdd.{edges, is_inside, is_odd, ring_edges}
use Rattle.geom.specs.Laws.{is_one_of}
use Rattle.geom.specs.World.{Place}
use Rattle.mapdefs.specs.declared.symbol.PixmapFields.{PixmapFields}
use Rattle.scanfill.proofs.Flipping.{odd-next}
use Rattle.strokes.proofs.Sides.{both-ends}
use Rattle.strokes.specs.Square.{covers_square, is_beside}
use Rattle.symbols.specs.Stamp.{covers_pixel, is_coloured, position_on}
use Rattle.viewport.specs.View.{ViewValue, device_point}
use Rattle.vertices.proofs.NearBoxes.{AreRound}
use Rattle.vertices.proofs.NearEdges.{FailsBetween, count-failed, parts-fail}
use Rattle.mapdefs.proofs.Containing.{any-weaker}
use Rattle.vertices.proofs.Finding.{any-one, must-pass}
use Rattle.geom.proofs.Together.{odd-add}

-- one more is odd where the others aren't
odd-share : (t : Bool) (n : ℕ) → is_odd (cond {A = ℕ} t 1 0 + n) ≡ is_one_of t (is_odd n)
odd-share true n = ap is_odd (turn n) ∙ odd-next n
  where
    turn : (n : ℕ) → 1 + n ≡ n + 1
    turn n = omega arith
odd-share false n = ap is_odd (turn n)
  where
    turn : (n : ℕ) → 0 + n ≡ n
    turn n = omega arith

-- a way from one side to another and on
on-way : (a b c : Bool) → is_one_of (is_one_of a b) (is_one_of b c) ≡ is_one_of a c
on-way true true true = refl
on-way true true false = refl
on-way true false true = refl
on-way true false false = refl
on-way false true true = refl
on-way false true false = refl
on-way false false true = refl
on-way false false false = refl

one-odd : (t : Bool) → is_odd (cond {A = ℕ} t 1 0 + 0) ≡ t
one-odd true = refl
one-odd false = refl

-- a way from one vertex over others to another crosses a height an odd number of times where the two lie on two sides of it
closing-odd : (y : ℤ) (first from : DevicePoint) (rest : List DevicePoint) →
    is_odd (count_by (λ e. crosses_height e y) (closing_edges first from rest)) ≡ is_one_of (int_le from.y y) (int_le first.y y)
closing-odd y first from [] =
    ap is_odd (sum_by-cons (λ (e : EdgeEnds). cond {A = ℕ} (crosses_height e y) 1 0) (record { from = from; to = first }) [])
    ∙ one-odd (is_one_of (int_le from.y y) (int_le first.y y))
closing-odd y first from (to ∷ rest) =
    ap is_odd (sum_by-cons (λ (e : EdgeEnds). cond {A = ℕ} (crosses_height e y) 1 0) (record { from = from; to = to }) (closing_edges first to rest))
    ∙ (odd-share (is_one_of (int_le from.y y) (int_le to.y y)) (count_by (λ e. crosses_height e y) (closing_edges first to rest))
    ∙ (ap (is_one_of (is_one_of (int_le from.y y) (int_le to.y y))) (closing-odd y first to rest)
    ∙ on-way (int_le from.y y) (int_le to.y y) (int_le first.y y)))

same-side : (a : Bool) → is_one_of a a ≡ false
same-side true = refl
same-side false = refl

-- a ring crosses each height an even number of times
ring-even : (y : ℤ) (ring : List DevicePoint) → is_odd (count_by (λ e. crosses_height e y) (ring_edges ring)) ≡ false
ring-even y [] = refl
ring-even y (x ∷ rest) =
    ap (λ es. is_odd (count_by (λ e. crosses_height e y) es)) (ring_edges-closing (x ∷ rest) x rest refl)
    ∙ (closing-odd y x x rest ∙ same-side (int_le x.y y))

-- and so do rings
rings-even : (y : ℤ) (rings : List (List DevicePoint)) → is_odd (count_by (λ e. crosses_height e y) (edges rings)) ≡ false
rings-even y [] = refl
rings-even y (ring ∷ rings) =
    ap is_odd (sum_by-append (λ (e : EdgeEnds). cond {A = ℕ} (crosses_height e y) 1 0) (ring_edges ring) (edges rings))
    ∙ (odd-add (count_by (λ e. crosses_height e y) (ring_edges ring)) (count_by (λ e. crosses_height e y) (edges rings))
    ∙ rw (ring-even y ring, rings-even y rings) refl)

-- two tests that differ nowhere count alike
count-alike : {X : Type 0} (f g : X → Bool) (xs : List X) → list_any (λ x. is_one_of (f x) (g x)) xs ≡ false → count_by f xs ≡ count_by g xs
count-alike f g [] h = refl
count-alike {X} f g (x ∷ xs) h =
    let both = or_parts (is_one_of (f x) (g x)) (list_any (λ y. is_one_of (f y) (g y)) xs) h in
    let others = count-alike f g xs both.1 in
    let one : f x ≡ g x = alike (f x) (g x) both.0 in
    sum_by-cons (λ (y : X). cond {A = ℕ} (f y) 1 0) x xs
    ∙ (rw (one, others) refl ∙ sym (sum_by-cons (λ (y : X). cond {A = ℕ} (g y) 1 0) x xs))
  where
    alike : (a b : Bool) → is_one_of a b ≡ false → a ≡ b
    alike true true e = refl
    alike true false e = absurd (cc)
    alike false true e = absurd (cc)
    alike false false e = refl

-- two equal truth values don't differ
differs-not : (a b : Bool) → a ≡ b → is_one_of a b ≡ false
differs-not a b e = rw e (same-side b)

-- which edges cross the height of p at p or left of it, by the side of both ends
pub right-fails : (p : DevicePoint) → FailsBetween (λ v. int_le v.x p.x) (crosses_at_or_left p)
right-fails p e a b =
    let ends = both-ends (λ v. p.x <ℤ v.x) e (not_le_of e.from.x p.x a) (not_le_of e.to.x p.x b) in
    right-crosses e p ends.0 ends.1

pub left-alike : (p : DevicePoint) → FailsBetween (λ v. int_lt p.x v.x) (λ e. is_one_of (crosses_at_or_left p e) (crosses_height e p.y))
left-alike p e a b =
    let from : e.from.x ≤ℤ p.x = omega (arith, ints, a) in
    let to : e.to.x ≤ℤ p.x = omega (arith, ints, b) in
    let ends = both-ends (λ v. v.x ≤ℤ p.x) e from to in
    differs-not (crosses_at_or_left p e) (crosses_height e p.y) (left-crosses e p ends.0 ends.1)

pub below-fails : (p : DevicePoint) → FailsBetween (λ v. int_le v.y p.y) (crosses_at_or_left p)
below-fails p e a b = rw (a, b) refl

pub above-fails : (p : DevicePoint) → FailsBetween (λ v. int_lt p.y v.y) (crosses_at_or_left p)
above-fails p e a b =
    let from : int_le e.from.y p.y ≡ true = sym (omega (arith, ints, a)) in
    let to : int_le e.to.y p.y ≡ true = sym (omega (arith, ints, b)) in
    rw (from, to) refl

-- a point that no edge crosses is not inside
pub none-inside : (parts : List (List Place)) (at : Place → DevicePoint) (u : DevicePoint → Bool) (p : DevicePoint) → FailsBetween u (crosses_at_or_left p) →
    list_any (λ q. u (at q)) (flat_map (λ part. part) parts) ≡ false → is_inside (map (map at) parts) p ≡ false
none-inside parts at u p fails h =
    ap is_odd (count-failed (crosses_at_or_left p) (edges (map (map at) parts)) (parts-fail true at u (crosses_at_or_left p) fails parts h))

-- nor is one with all vertices left of it
pub left-inside : (parts : List (List Place)) (at : Place → DevicePoint) (p : DevicePoint) →
    list_any (λ q. int_lt p.x (at q).x) (flat_map (λ part. part) parts) ≡ false → is_inside (map (map at) parts) p ≡ false
left-inside parts at p h =
    ap is_odd (count-alike (crosses_at_or_left p) (λ e. crosses_height e p.y) (edges (map (map at) parts))
    (parts-fail true at (λ v. int_lt p.x v.x) (λ e. is_one_of (crosses_at_or_left p e) (crosses_height e p.y)) (left-alike p) parts h))
    ∙ rings-even p.y (map (map at) parts)

-- a polygon has vertices all round a pixel that it covers
pub fill-round : (view : ViewValue) (margin : ℕ) (parts : List (List Place)) (i j : ℕ) → i < view.width → j < view.height →
    is_inside (map (map (device_point view)) parts) (pixel_centre (pos i) (pos j)) ≡ true → AreRound view margin (flat_map (λ part. part) parts)
fill-round view margin parts i j column row inside =
    let at : Place → DevicePoint = device_point view in
    let points : List Place = flat_map (λ part. part) parts in
    let p : DevicePoint = pixel_centre (pos i) (pos j) in
    let b : Bool = is_inside (map (map at) parts) p in
    record {
      right = any-weaker (λ (q : Place). int_le (at q).x p.x ≡ true) (λ (q : Place). (at q).x <ℤ pos (16 * (view.width + margin))) points
          (λ (q : Place) (h : int_le (at q).x p.x ≡ true). omega (arith, ints, le_of (at q).x p.x h))
          (Any-from_list_any (λ (q : Place). int_le (at q).x p.x) points
          (must-pass (list_any (λ (q : Place). int_le (at q).x p.x) points) b (none-inside parts at (λ v. int_le v.x p.x) p (right-fails p)) inside));
      left = any-weaker (λ (q : Place). int_lt p.x (at q).x ≡ true) (λ (q : Place). neg_ℤ (pos (16 * margin)) ≤ℤ (at q).x) points
          (λ (q : Place) (h : int_lt p.x (at q).x ≡ true). omega (arith, ints, h))
          (Any-from_list_any (λ (q : Place). int_lt p.x (at q).x) points
          (must-pass (list_any (λ (q : Place). int_lt p.x (at q).x) points) b (left-inside parts at p) inside));
      bottom = any-weaker (λ (q : Place). int_le (at q).y p.y ≡ true) (λ (q : Place). (at q).y <ℤ pos (16 * (view.height + margin))) points
          (λ (q : Place) (h : int_le (at q).y p.y ≡ true). omega (arith, ints, le_of (at q).y p.y h))
          (Any-from_list_any (λ (q : Place). int_le (at q).y p.y) points
          (must-pass (list_any (λ (q : Place). int_le (at q).y p.y) points) b (none-inside parts at (λ v. int_le v.y p.y) p (below-fails p)) inside));
      top = any-weaker (λ (q : Place). int_lt p.y (at q).y ≡ true) (λ (q : Place). neg_ℤ (pos (16 * margin)) ≤ℤ (at q).y) points
          (λ (q : Place) (h : int_lt p.y (at q).y ≡ true). omega (arith, ints, h))
          (Any-from_list_any (λ (q : Place). int_lt p.y (at q).y) points
          (must-pass (list_any (λ (q : Place). int_lt p.y (at q).y) points) b (none-inside parts at (λ v. int_lt p.y v.y) p (above-fails p)) inside));
    }

-- a point whose pixel is this near to a column and a row of the picture lies round it on all sides
pub record IsBy (view : ViewValue) (margin : ℕ) (v : DevicePoint) : Type 0 where
  pub right : v.x <ℤ pos (16 * (view.width + margin))
  pub left : neg_ℤ (pos (16 * margin)) ≤ℤ v.x
  pub bottom : v.y <ℤ pos (16 * (view.height + margin))
  pub top : neg_ℤ (pos (16 * margin)) ≤ℤ v.y

pub by-round : (view : ViewValue) (margin : ℕ) (points : List Place) (q : Place) → Contains points q → IsBy view margin (device_point view q) → AreRound view margin points
by-round view margin points q c by = record {
  right = any-one (λ (r : Place). (device_point view r).x <ℤ pos (16 * (view.width + margin))) points q c by.right;
  left = any-one (λ (r : Place). neg_ℤ (pos (16 * margin)) ≤ℤ (device_point view r).x) points q c by.left;
  bottom = any-one (λ (r : Place). (device_point view r).y <ℤ pos (16 * (view.height + margin))) points q c by.bottom;
  top = any-one (λ (r : Place). neg_ℤ (pos (16 * margin)) ≤ℤ (device_point view r).y) points q c by.top;
}

-- on one axis: a number whose sixteenth is near to an index below a side
axis-by : (size margin side i : ℕ) (x : ℤ) → size ≤ margin → i < side → (int_div_euclid x (pos 16) -ℤ pos size) ≤ℤ pos i → pos i ≤ℤ (int_div_euclid x (pos 16) +ℤ pos size) →
    (x <ℤ pos (16 * (side + margin))) × (neg_ℤ (pos (16 * margin)) ≤ℤ x)
axis-by size margin side i x most within least greatest =
    let q = quotient_parts x (pos 16) (omega (arith, ints)) in
    (omega (arith, ints, q.1, least), omega (arith, ints, q.0, greatest))

beside-by : (size margin side i : ℕ) (x : ℤ) → size ≤ margin → i < side → is_beside size (int_div_euclid x (pos 16)) (pos i) ≡ true →
    (x <ℤ pos (16 * (side + margin))) × (neg_ℤ (pos (16 * margin)) ≤ℤ x)
beside-by size margin side i x most within h =
    let at = int_div_euclid x (pos 16) in
    let both = and_parts (int_le (at -ℤ pos ((size - 1) / 2)) (pos i)) (int_le (pos i) (at +ℤ pos (size / 2))) h in
    axis-by size margin side i x most within
    (omega (arith, ints, le_of (at -ℤ pos ((size - 1) / 2)) (pos i) both.0, div-le_self (size - 1) 2))
    (omega (arith, ints, le_of (pos i) (at +ℤ pos (size / 2)) both.1, div-le_self size 2))

-- a square that covers a pixel
pub square-by : (view : ViewValue) (margin : ℕ) (v : DevicePoint) (size i j : ℕ) → size ≤ margin → i < view.width → j < view.height →
    covers_square (record { pixel = pixel_of v; size = size }) (pos i) (pos j) ≡ true → IsBy view margin v
unfolding covers_square
square-by view margin v size i j most column row h =
    let both = and_parts (is_beside size (pixel_of v).i (pos i)) (is_beside size (pixel_of v).j (pos j)) h in
    let x = beside-by size margin view.width i v.x most column both.0 in
    let y = beside-by size margin view.height j v.y most row both.1 in
    record { right = x.0; left = x.1; bottom = y.0; top = y.1 }

-- a side of a pixmap that a column or row falls into
position-by : (size margin side i : ℕ) (x : ℤ) → size ≤ margin → i < side → (position_on size (int_div_euclid x (pos 16)) (pos i) ≡ None → ⊥) →
    (x <ℤ pos (16 * (side + margin))) × (neg_ℤ (pos (16 * margin)) ≤ℤ x)
position-by size margin side i x most within h =
    let at = int_div_euclid x (pos 16) in
    let apart = pos i -ℤ (at -ℤ pos (size / 2)) in
    let both = and_parts (int_le (pos 0) apart) (int_lt apart (pos size)) (passes (int_le (pos 0) apart && int_lt apart (pos size)) refl) in
    axis-by size margin side i x most within
    (omega (arith, ints, le_of (pos 0) apart both.0, div-le_self size 2))
    (omega (arith, ints, both.1))
  where
    passes : (t : Bool) → (int_le (pos 0) (pos i -ℤ (int_div_euclid x (pos 16) -ℤ pos (size / 2))) && int_lt (pos i -ℤ (int_div_euclid x (pos 16) -ℤ pos (size / 2))) (pos size)) ≡ t → t ≡ true
    passes true e = refl
    passes false e = absurd (h (rw e refl))

-- a coloured pixel that was found by a column and a row has both
both-there : {X : Type 0} (paints : Option X → Bool) (g : ℕ → ℕ → Option X) (o p : Option ℕ) → paints None ≡ false →
    paints (option_and_then (λ column. option_and_then (λ row. g column row) p) o) ≡ true → ((o ≡ None) → ⊥) × ((p ≡ None) → ⊥)
both-there paints g None p none h = absurd (cc)
both-there paints g (Some a) None none h = absurd (cc)
both-there paints g (Some a) (Some b) none h = (λ e. absurd (cc), λ e. absurd (cc))

-- a pixmap that covers a pixel
pub stamp-by : (view : ViewValue) (margin : ℕ) (v : DevicePoint) (pixmap : PixmapFields) (i j : ℕ) → pixmap.width ≤ margin → pixmap.height ≤ margin → i < view.width → j < view.height →
    covers_pixel (record { pixmap = pixmap; pixel = pixel_of v }) (pos i) (pos j) ≡ true → IsBy view margin v
unfolding covers_pixel
stamp-by view margin v pixmap i j wide high column row h =
    let both = both-there is_coloured (λ column' row'. slice_get pixmap.pixels (row' * pixmap.width + column'))
    (position_on pixmap.width (pixel_of v).i (pos i)) (position_on pixmap.height (pixel_of v).j (pos j)) refl h in
    let x = position-by pixmap.width margin view.width i v.x wide column both.0 in
    let y = position-by pixmap.height margin view.height j v.y high row both.1 in
    record { right = x.0; left = x.1; bottom = y.0; top = y.1 }
