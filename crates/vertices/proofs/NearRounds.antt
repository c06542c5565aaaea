-- Points all round a pixel that a round line covers.
use Rattle.std.proofs.Common.{◌≡◌, ◌∙◌, ℕ, ◌+◌, ◌*◌, ◌<◌, ◌≤◌, Bool, true, false, ◌&&◌, ◌||◌, List, [], ◌∷◌, map, take, refl, ap, sym, arith}
use Rattle.std.proofs.lemmas.Bool.{and_parts, or_from, or_parts}
use Rattle.std.proofs.lemmas.Int.{int_max_is, int_min_is, ints}
use Rattle.std.proofs.lemmas.List.Folds.{list_any-append}
use Rattle.std.specs.Int.{int_max, int_min}
use Rattle.std.specs.List.{flat_map, list_any}
use Rattle.std.specs.Prelude.{int_le}
use lib.IntN.{ℤ, pos, neg_ℤ, ◌+ℤ◌, ◌-ℤ◌}
use lib.Signed.{◌<ℤ◌, ◌≤ℤ◌}
use Rattle.geom.proofs.Products.{is_not_le, le_of, not_le_of}
use Rattle.geom.specs.Device.{DevicePoint, centre, pixel_centre}
use Rattle.geom.specs.Edge.{EdgeEnds}
use Rattle.geom.specs.World.{Place}
use Rattle.strokes.proofs.Discs.{disc-across, disc-down}
use Rattle.strokes.proofs.RoundBox.{not-across, not-down}
use Rattle.strokes.specs.Disc.{DiscValue, covers_disc, is_within_half}
use Rattle.strokes.specs.Line.{edges_of, segment_along, segments_of}
use Rattle.strokes.specs.Round.{covers_pixel, covers_round, has_centre, is_about, point_edge, round_edges, round_line, round_segments}
use Rattle.viewport.specs.View.{ViewValue, device_point}
use Rattle.vertices.proofs.NearBoxes.{AreRound}
use Rattle.vertices.proofs.NearEdges.{FailsBetween, part-fail}
use Rattle.vertices.proofs.NearLines.{sides-round}
use Rattle.vertices.proofs.NearShapes.{IsBy}

and-left : (s t : Bool) → s ≡ false → (s && t) ≡ false
and-left s t h = rw h refl

and-right : (s t : Bool) → t ≡ false → (s && t) ≡ false
and-right true t h = h
and-right false t h = refl

-- a number more than half a width before both others isn't about them, nor is one behind both
before-both : (w : ℕ) (a b z : ℤ) → (z +ℤ pos (8 * w)) <ℤ a → (z +ℤ pos (8 * w)) <ℤ b → is_about w a b z ≡ false
before-both w a b z f g =
    and-left (int_le (int_min a b -ℤ pos (8 * w)) z) (int_le z (int_max a b +ℤ pos (8 * w)))
    (is_not_le (int_min a b -ℤ pos (8 * w)) z (omega (arith, ints, int_min_is a b, f, g)))

behind-both : (w : ℕ) (a b z : ℤ) → a <ℤ (z -ℤ pos (8 * w)) → b <ℤ (z -ℤ pos (8 * w)) → is_about w a b z ≡ false
behind-both w a b z f g =
    and-right (int_le (int_min a b -ℤ pos (8 * w)) z) (int_le z (int_max a b +ℤ pos (8 * w)))
    (is_not_le z (int_max a b +ℤ pos (8 * w)) (omega (arith, ints, int_max_is a b, f, g)))

-- where both ends lie on one side of a point, by more than half the width, the round segment doesn't cover it
right-round : (w : ℕ) (p : DevicePoint) → FailsBetween (λ v. int_le v.x (p.x +ℤ pos (8 * w))) (λ e. covers_round w e p)
right-round w p e a b =
    not-across w e p.x p.y (before-both w e.from.x e.to.x p.x (not_le_of e.from.x (p.x +ℤ pos (8 * w)) a) (not_le_of e.to.x (p.x +ℤ pos (8 * w)) b))

left-round : (w : ℕ) (p : DevicePoint) → FailsBetween (λ v. int_le (p.x -ℤ pos (8 * w)) v.x) (λ e. covers_round w e p)
left-round w p e a b =
    not-across w e p.x p.y (behind-both w e.from.x e.to.x p.x (not_le_of (p.x -ℤ pos (8 * w)) e.from.x a) (not_le_of (p.x -ℤ pos (8 * w)) e.to.x b))

bottom-round : (w : ℕ) (p : DevicePoint) → FailsBetween (λ v. int_le v.y (p.y +ℤ pos (8 * w))) (λ e. covers_round w e p)
bottom-round w p e a b =
    not-down w e p.x p.y (before-both w e.from.y e.to.y p.y (not_le_of e.from.y (p.y +ℤ pos (8 * w)) a) (not_le_of e.to.y (p.y +ℤ pos (8 * w)) b))

top-round : (w : ℕ) (p : DevicePoint) → FailsBetween (λ v. int_le (p.y -ℤ pos (8 * w)) v.y) (λ e. covers_round w e p)
top-round w p e a b =
    not-down w e p.x p.y (behind-both w e.from.y e.to.y p.y (not_le_of (p.y -ℤ pos (8 * w)) e.from.y a) (not_le_of (p.y -ℤ pos (8 * w)) e.to.y b))

-- a round line of a width, where its points lie in the world
module _ (closed : Bool) (at : Place → DevicePoint) (w i j : ℕ) (u : DevicePoint → Bool) (fails : FailsBetween u (λ e. covers_round w e (pixel_centre (pos i) (pos j)))) where
  abbrev covers : EdgeEnds → Bool
  covers e = covers_round w e (pixel_centre (pos i) (pos j))

  by-edges : (es : List EdgeEnds) → list_any (has_centre (pos i) (pos j)) (map (segment_along w) es) ≡ list_any covers es
  by-edges [] = refl
  by-edges (e ∷ es) = ap (λ t. covers e || t) (by-edges es)

  -- a test that all vertices of a part fail is failed by its first one
  first-fails : (part : List Place) → list_any (λ q. u (at q)) part ≡ false → list_any covers (map point_edge (take 1 (map at part))) ≡ false
  first-fails [] h = refl
  first-fails (x ∷ rest) h =
      let both = or_parts (u (at x)) (list_any (λ q. u (at q)) rest) h in
      or_from (covers (point_edge (at x))) false (fails (point_edge (at x)) both.0 both.0) refl

  -- and then no segment of the part covers the pixel
  part-fails : (part : List Place) → list_any (λ q. u (at q)) part ≡ false → list_any (has_centre (pos i) (pos j)) (round_segments closed w (map at part)) ≡ false
  part-fails part h =
      by-edges (round_edges closed (map at part))
      ∙ (list_any-append covers (map point_edge (take 1 (map at part))) (edges_of closed (map at part))
      ∙ or_from (list_any covers (map point_edge (take 1 (map at part)))) (list_any covers (edges_of closed (map at part))) (first-fails part h) (part-fail closed at u covers fails part h))

  -- nor one of a chain
  pub chain-fails : (part : List Place) → list_any (λ q. u (at q)) part ≡ false → list_any (has_centre (pos i) (pos j)) (segments_of closed w (map at part)) ≡ false
  chain-fails part h = by-edges (edges_of closed (map at part)) ∙ part-fail closed at u covers fails part h

  -- nor one of the line
  pub line-fails : (parts : List (List Place)) → list_any (λ q. u (at q)) (flat_map (λ part. part) parts) ≡ false →
      covers_pixel (round_line (map (map at) parts) closed w) (pos i) (pos j) ≡ false
  line-fails [] h = refl
  line-fails (part ∷ parts) h =
      let both = or_parts (list_any (λ q. u (at q)) part) (list_any (λ q. u (at q)) (flat_map (λ p. p) parts)) (sym (list_any-append (λ q. u (at q)) part (flat_map (λ p. p) parts)) ∙ h) in
      list_any-append (has_centre (pos i) (pos j)) (round_segments closed w (map at part)) (round_line (map (map at) parts) closed w)
      ∙ or_from (list_any (has_centre (pos i) (pos j)) (round_segments closed w (map at part))) (covers_pixel (round_line (map (map at) parts) closed w) (pos i) (pos j))
      (part-fails part both.0) (line-fails parts both.1)

-- a round line has vertices all round a pixel that it covers
pub round_line-round : (view : ViewValue) (margin : ℕ) (closed : Bool) (w : ℕ) (parts : List (List Place)) (i j : ℕ) → w ≤ margin → i < view.width → j < view.height →
    covers_pixel (round_line (map (map (device_point view)) parts) closed w) (pos i) (pos j) ≡ true → AreRound view margin (flat_map (λ part. part) parts)
round_line-round view margin closed w parts i j wide column row covered =
    let at : Place → DevicePoint = device_point view in
    let p : DevicePoint = pixel_centre (pos i) (pos j) in
    sides-round view margin w (flat_map (λ part. part) parts) i j (covers_pixel (round_line (map (map at) parts) closed w) (pos i) (pos j)) wide column row
    (line-fails closed at w i j (λ v. int_le v.x (p.x +ℤ pos (8 * w))) (right-round w p) parts) (line-fails closed at w i j (λ v. int_le (p.x -ℤ pos (8 * w)) v.x) (left-round w p) parts)
    (line-fails closed at w i j (λ v. int_le v.y (p.y +ℤ pos (8 * w))) (bottom-round w p) parts) (line-fails closed at w i j (λ v. int_le (p.y -ℤ pos (8 * w)) v.y) (top-round w p) parts)
    covered

-- and a chain has, of which a segment covers the pixel
pub chain-round : (view : ViewValue) (margin w : ℕ) (points : List Place) (i j : ℕ) → w ≤ margin → i < view.width → j < view.height →
    list_any (has_centre (pos i) (pos j)) (segments_of false w (map (device_point view) points)) ≡ true → AreRound view margin points
chain-round view margin w points i j wide column row covered =
    let at : Place → DevicePoint = device_point view in
    let p : DevicePoint = pixel_centre (pos i) (pos j) in
    sides-round view margin w points i j (list_any (has_centre (pos i) (pos j)) (segments_of false w (map at points))) wide column row
    (chain-fails false at w i j (λ v. int_le v.x (p.x +ℤ pos (8 * w))) (right-round w p) points) (chain-fails false at w i j (λ v. int_le (p.x -ℤ pos (8 * w)) v.x) (left-round w p) points)
    (chain-fails false at w i j (λ v. int_le v.y (p.y +ℤ pos (8 * w))) (bottom-round w p) points) (chain-fails false at w i j (λ v. int_le (p.y -ℤ pos (8 * w)) v.y) (top-round w p) points)
    covered

-- a disc that covers a pixel has its centre all round it
pub disc-by : (view : ViewValue) (margin : ℕ) (d : DiscValue) (i j : ℕ) → d.size ≤ margin → i < view.width → j < view.height →
    covers_disc d (pixel_centre (pos i) (pos j)) ≡ true → IsBy view margin d.at
disc-by view margin d i j most column row h =
    let p : DevicePoint = pixel_centre (pos i) (pos j) in
    let x = within-by d.size margin view.width i d.at.x most column (passes (is_within_half d.size d.at.x p.x) (λ none. sym h ∙ disc-across d p.x p.y none)) in
    let y = within-by d.size margin view.height j d.at.y most row (passes (is_within_half d.size d.at.y p.y) (λ none. sym h ∙ disc-down d p.x p.y none)) in
    record { right = x.0; left = x.1; bottom = y.0; top = y.1 }
  where
    passes : (t : Bool) → (t ≡ false → true ≡ false) → t ≡ true
    passes true f = refl
    passes false f = sym (f refl)

    within-by : (size margin side i : ℕ) (x : ℤ) → size ≤ margin → i < side → is_within_half size x (centre (pos i)) ≡ true →
        (x <ℤ pos (16 * (side + margin))) × (neg_ℤ (pos (16 * margin)) ≤ℤ x)
    within-by size margin side i x most within h =
        let both = and_parts (int_le (x -ℤ pos (8 * size)) (centre (pos i))) (int_le (centre (pos i)) (x +ℤ pos (8 * size))) h in
        (omega (arith, ints, le_of (x -ℤ pos (8 * size)) (centre (pos i)) both.0, most, within), omega (arith, ints, le_of (centre (pos i)) (x +ℤ pos (8 * size)) both.1, most))
