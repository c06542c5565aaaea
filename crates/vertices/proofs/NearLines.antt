-- Points all round a pixel that a line covers.
use Rattle.std.proofs.Common.{◌≡◌, ◌∙◌, ℕ, ◌+◌, ◌*◌, ◌<◌, ◌≤◌, Bool, true, false, ◌||◌, List, [], ◌∷◌, map, refl, ap, sym, arith, ⊎_elim}
use Rattle.std.proofs.lemmas.Bool.{and_from}
use Rattle.std.proofs.lemmas.Int.{ints}
use Rattle.std.proofs.lemmas.List.Folds.{Any-from_list_any, list_any-append}
use Rattle.std.specs.List.{flat_map, list_any}
use Rattle.std.specs.Prelude.{int_le, int_lt}
use lib.IntN.{pos, neg_ℤ, ◌+ℤ◌, ◌-ℤ◌}
use lib.Signed.{◌<ℤ◌, ◌≤ℤ◌}
use Rattle.geom.proofs.Products.{is_lt, le_of, not_le_of}
use Rattle.geom.specs.Device.{DevicePoint, pixel_centre}
use Rattle.geom.specs.Edge.{EdgeEnds, low_end, high_end}
use Rattle.geom.specs.World.{Place}
use Rattle.strokes.proofs.Beyond.{beyond-covers}
use Rattle.strokes.proofs.Short.{or-cases}
use Rattle.strokes.proofs.Sides.{above-rows, below-rows, both-ends, either-way, right-rows}
use Rattle.strokes.specs.Line.{covers_centre, covers_pixel, edges_of, line_of, segment_along, segments_of, square_at}
use Rattle.strokes.specs.Segment.{are_left_of, are_right_of, covers_by_rows, covers_segment, turned, turned_edge}
use Rattle.strokes.specs.Square.{covers_square}
use Rattle.viewport.specs.View.{ViewValue, device_point}
use Rattle.vertices.proofs.NearBoxes.{AreRound}
use Rattle.vertices.proofs.NearEdges.{FailsBetween, parts-fail}
use Rattle.mapdefs.proofs.Containing.{any-weaker}
use Rattle.vertices.proofs.Finding.{must-pass}
use Rattle.vertices.proofs.NearShapes.{by-round, square-by}

-- a segment covers no point by its rows that lies beyond both ends
right-covers : (w : ℕ) (e : EdgeEnds) (p : DevicePoint) → (p.x +ℤ pos (8 * w)) <ℤ (low_end e).x → (p.x +ℤ pos (8 * w)) <ℤ (high_end e).x → covers_by_rows w e p ≡ false
right-covers w e p a b =
    beyond-covers w e p.x p.y (or-right (are_left_of e (p.x -ℤ pos (8 * w))) (are_right_of e (p.x +ℤ pos (8 * w)))
    (and_from (int_lt (p.x +ℤ pos (8 * w)) (low_end e).x) (int_lt (p.x +ℤ pos (8 * w)) (high_end e).x) (is_lt _ _ a) (is_lt _ _ b)))
  where
    or-right : (s t : Bool) → t ≡ true → (s || t) ≡ true
    or-right true t h = refl
    or-right false t h = h

-- where both ends lie on one side of a point, by more than half the width, the segment doesn't cover it
pub right-segment : (w : ℕ) (p : DevicePoint) → FailsBetween (λ v. int_le v.x (p.x +ℤ pos (8 * w))) (λ e. covers_segment w e p)
right-segment w p e a b =
    let ends = both-ends (λ v. (p.x +ℤ pos (8 * w)) <ℤ v.x) e (not_le_of e.from.x (p.x +ℤ pos (8 * w)) a) (not_le_of e.to.x (p.x +ℤ pos (8 * w)) b) in
    let turn = both-ends (λ v. (p.x +ℤ pos (8 * w)) <ℤ v.y) (turned_edge e) ends.0 ends.1 in
    either-way w e p (right-covers w e p ends.0 ends.1) (above-rows w (turned_edge e) (turned p) (omega (arith, ints, turn.0)))

pub left-segment : (w : ℕ) (p : DevicePoint) → FailsBetween (λ v. int_le (p.x -ℤ pos (8 * w)) v.x) (λ e. covers_segment w e p)
left-segment w p e a b =
    let ends = both-ends (λ v. v.x <ℤ (p.x -ℤ pos (8 * w))) e (not_le_of (p.x -ℤ pos (8 * w)) e.from.x a) (not_le_of (p.x -ℤ pos (8 * w)) e.to.x b) in
    let turn = both-ends (λ v. v.y <ℤ (p.x -ℤ pos (8 * w))) (turned_edge e) ends.0 ends.1 in
    either-way w e p (right-rows w e p ends.0 ends.1) (below-rows w (turned_edge e) (turned p) (omega (arith, ints, turn.1)))

pub bottom-segment : (w : ℕ) (p : DevicePoint) → FailsBetween (λ v. int_le v.y (p.y +ℤ pos (8 * w))) (λ e. covers_segment w e p)
bottom-segment w p e a b =
    let ends = both-ends (λ v. (p.y +ℤ pos (8 * w)) <ℤ v.y) e (not_le_of e.from.y (p.y +ℤ pos (8 * w)) a) (not_le_of e.to.y (p.y +ℤ pos (8 * w)) b) in
    let turn = both-ends (λ v. (p.y +ℤ pos (8 * w)) <ℤ v.x) (turned_edge e) ends.0 ends.1 in
    either-way w e p (above-rows w e p (omega (arith, ints, ends.0))) (right-covers w (turned_edge e) (turned p) turn.0 turn.1)

pub top-segment : (w : ℕ) (p : DevicePoint) → FailsBetween (λ v. int_le (p.y -ℤ pos (8 * w)) v.y) (λ e. covers_segment w e p)
top-segment w p e a b =
    let ends = both-ends (λ v. v.y <ℤ (p.y -ℤ pos (8 * w))) e (not_le_of (p.y -ℤ pos (8 * w)) e.from.y a) (not_le_of (p.y -ℤ pos (8 * w)) e.to.y b) in
    let turn = both-ends (λ v. v.x <ℤ (p.y -ℤ pos (8 * w))) (turned_edge e) ends.0 ends.1 in
    either-way w e p (below-rows w e p (omega (arith, ints, ends.1))) (right-rows w (turned_edge e) (turned p) turn.0 turn.1)

-- the segments of a line, by its edges
pub segments-edges : (closed : Bool) (w i j : ℕ) (parts : List (List DevicePoint)) →
    list_any (covers_centre (pos i) (pos j)) (flat_map (segments_of closed w) parts) ≡ list_any (λ e. covers_segment w e (pixel_centre (pos i) (pos j))) (flat_map (edges_of closed) parts)
segments-edges closed w i j [] = refl
segments-edges closed w i j (part ∷ parts) =
    list_any-append (covers_centre (pos i) (pos j)) (segments_of closed w part) (flat_map (segments_of closed w) parts)
    ∙ (rw (one (edges_of closed part), segments-edges closed w i j parts) refl
    ∙ sym (list_any-append (λ e. covers_segment w e (pixel_centre (pos i) (pos j))) (edges_of closed part) (flat_map (edges_of closed) parts)))
  where
    one : (es : List EdgeEnds) → list_any (covers_centre (pos i) (pos j)) (map (segment_along w) es) ≡ list_any (λ e. covers_segment w e (pixel_centre (pos i) (pos j))) es
    one [] = refl
    one (e ∷ es) = ap (λ b. covers_segment w e (pixel_centre (pos i) (pos j)) || b) (one es)

-- its squares, by its vertices
pub squares-points : (at : Place → DevicePoint) (w i j : ℕ) (parts : List (List Place)) →
    list_any (λ s. covers_square s (pos i) (pos j)) (flat_map (map (square_at w)) (map (map at) parts))
    ≡ list_any (λ q. covers_square (square_at w (at q)) (pos i) (pos j)) (flat_map (λ part. part) parts)
squares-points at w i j [] = refl
squares-points at w i j (part ∷ parts) =
    list_any-append (λ s. covers_square s (pos i) (pos j)) (map (square_at w) (map at part)) (flat_map (map (square_at w)) (map (map at) parts))
    ∙ (rw (one part, squares-points at w i j parts) refl
    ∙ sym (list_any-append (λ q. covers_square (square_at w (at q)) (pos i) (pos j)) part (flat_map (λ p. p) parts)))
  where
    one : (points : List Place) → list_any (λ s. covers_square s (pos i) (pos j)) (map (square_at w) (map at points)) ≡ list_any (λ q. covers_square (square_at w (at q)) (pos i) (pos j)) points
    one [] = refl
    one (q ∷ points) = ap (λ b. covers_square (square_at w (at q)) (pos i) (pos j) || b) (one points)

-- points lie all round a pixel of a line where it isn't covered that has all of them on one side, further off than half the line's width
pub sides-round : (view : ViewValue) (margin w : ℕ) (points : List Place) (i j : ℕ) (covered : Bool) → w ≤ margin → i < view.width → j < view.height →
    (list_any (λ q. int_le (device_point view q).x ((pixel_centre (pos i) (pos j)).x +ℤ pos (8 * w))) points ≡ false → covered ≡ false) →
    (list_any (λ q. int_le ((pixel_centre (pos i) (pos j)).x -ℤ pos (8 * w)) (device_point view q).x) points ≡ false → covered ≡ false) →
    (list_any (λ q. int_le (device_point view q).y ((pixel_centre (pos i) (pos j)).y +ℤ pos (8 * w))) points ≡ false → covered ≡ false) →
    (list_any (λ q. int_le ((pixel_centre (pos i) (pos j)).y -ℤ pos (8 * w)) (device_point view q).y) points ≡ false → covered ≡ false) →
    covered ≡ true → AreRound view margin points
sides-round view margin w points i j covered wide column row right left bottom top is =
    let at : Place → DevicePoint = device_point view in
    let p : DevicePoint = pixel_centre (pos i) (pos j) in
    record {
      right = any-weaker (λ (q : Place). int_le (at q).x (p.x +ℤ pos (8 * w)) ≡ true) (λ (q : Place). (at q).x <ℤ pos (16 * (view.width + margin))) points
          (λ (q : Place) (h : int_le (at q).x (p.x +ℤ pos (8 * w)) ≡ true). omega (arith, ints, le_of (at q).x (p.x +ℤ pos (8 * w)) h))
          (Any-from_list_any (λ (q : Place). int_le (at q).x (p.x +ℤ pos (8 * w))) points
          (must-pass (list_any (λ (q : Place). int_le (at q).x (p.x +ℤ pos (8 * w))) points) covered right is));
      left = any-weaker (λ (q : Place). int_le (p.x -ℤ pos (8 * w)) (at q).x ≡ true) (λ (q : Place). neg_ℤ (pos (16 * margin)) ≤ℤ (at q).x) points
          (λ (q : Place) (h : int_le (p.x -ℤ pos (8 * w)) (at q).x ≡ true). omega (arith, ints, le_of (p.x -ℤ pos (8 * w)) (at q).x h))
          (Any-from_list_any (λ (q : Place). int_le (p.x -ℤ pos (8 * w)) (at q).x) points
          (must-pass (list_any (λ (q : Place). int_le (p.x -ℤ pos (8 * w)) (at q).x) points) covered left is));
      bottom = any-weaker (λ (q : Place). int_le (at q).y (p.y +ℤ pos (8 * w)) ≡ true) (λ (q : Place). (at q).y <ℤ pos (16 * (view.height + margin))) points
          (λ (q : Place) (h : int_le (at q).y (p.y +ℤ pos (8 * w)) ≡ true). omega (arith, ints, le_of (at q).y (p.y +ℤ pos (8 * w)) h))
          (Any-from_list_any (λ (q : Place). int_le (at q).y (p.y +ℤ pos (8 * w))) points
          (must-pass (list_any (λ (q : Place). int_le (at q).y (p.y +ℤ pos (8 * w))) points) covered bottom is));
      top = any-weaker (λ (q : Place). int_le (p.y -ℤ pos (8 * w)) (at q).y ≡ true) (λ (q : Place). neg_ℤ (pos (16 * margin)) ≤ℤ (at q).y) points
          (λ (q : Place) (h : int_le (p.y -ℤ pos (8 * w)) (at q).y ≡ true). omega (arith, ints, le_of (p.y -ℤ pos (8 * w)) (at q).y h))
          (Any-from_list_any (λ (q : Place). int_le (p.y -ℤ pos (8 * w)) (at q).y) points
          (must-pass (list_any (λ (q : Place). int_le (p.y -ℤ pos (8 * w)) (at q).y) points) covered top is));
    }

-- a line has vertices all round a pixel that one of its segments covers
segments-round : (view : ViewValue) (margin : ℕ) (closed : Bool) (w : ℕ) (parts : List (List Place)) (i j : ℕ) → w ≤ margin → i < view.width → j < view.height →
    list_any (λ e. covers_segment w e (pixel_centre (pos i) (pos j))) (flat_map (edges_of closed) (map (map (device_point view)) parts)) ≡ true →
    AreRound view margin (flat_map (λ part. part) parts)
segments-round view margin closed w parts i j wide column row covered =
    let at : Place → DevicePoint = device_point view in
    let p : DevicePoint = pixel_centre (pos i) (pos j) in
    let f : EdgeEnds → Bool = λ e. covers_segment w e p in
    sides-round view margin w (flat_map (λ part. part) parts) i j (list_any f (flat_map (edges_of closed) (map (map at) parts))) wide column row
    (parts-fail closed at (λ v. int_le v.x (p.x +ℤ pos (8 * w))) f (right-segment w p) parts) (parts-fail closed at (λ v. int_le (p.x -ℤ pos (8 * w)) v.x) f (left-segment w p) parts)
    (parts-fail closed at (λ v. int_le v.y (p.y +ℤ pos (8 * w))) f (bottom-segment w p) parts) (parts-fail closed at (λ v. int_le (p.y -ℤ pos (8 * w)) v.y) f (top-segment w p) parts)
    covered

-- and all round one that the line covers
pub line-round : (view : ViewValue) (margin : ℕ) (closed : Bool) (w : ℕ) (parts : List (List Place)) (i j : ℕ) → w ≤ margin → i < view.width → j < view.height →
    covers_pixel (line_of (map (map (device_point view)) parts) closed w) (pos i) (pos j) ≡ true → AreRound view margin (flat_map (λ part. part) parts)
line-round view margin closed w parts i j wide column row covered =
    let rings : List (List DevicePoint) = map (map (device_point view)) parts in
    let points : List Place = flat_map (λ part. part) parts in
    ⊎_elim
    (λ (h : list_any (covers_centre (pos i) (pos j)) (flat_map (segments_of closed w) rings) ≡ true).
    segments-round view margin closed w parts i j wide column row (sym (segments-edges closed w i j rings) ∙ h))
    (λ (h : list_any (λ s. covers_square s (pos i) (pos j)) (flat_map (map (square_at w)) rings) ≡ true).
    let (k, q, there, is, by) = Any-from_list_any (λ (q : Place). covers_square (square_at w (device_point view q)) (pos i) (pos j)) points (sym (squares-points (device_point view) w i j parts) ∙ h) in
    by-round view margin points q (k, there, is) (square-by view margin (device_point view q) w i j wide column row by))
    (or-cases (list_any (covers_centre (pos i) (pos j)) (flat_map (segments_of closed w) rings)) (list_any (λ s. covers_square s (pos i) (pos j)) (flat_map (map (square_at w)) rings)) covered)
