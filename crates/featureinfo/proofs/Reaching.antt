-- What covers a pixel near the queried one has a vertex on each side of the pixels near it, or within them.
use Rattle.std.proofs.Common.{◌≡◌, ◌∙◌, ℕ, ◌+◌, ◌*◌, ◌≤◌, Bool, true, false, ◌||◌, List, [], ◌∷◌, map, refl, ap, sym, arith, ⊎_elim}
use Rattle.std.proofs.lemmas.Bool.{and_parts}
use Rattle.std.proofs.lemmas.Int.{ints}
use Rattle.std.proofs.lemmas.List.Folds.{list_any-append}
use Rattle.std.specs.List.{flat_map, list_any}
use Rattle.std.specs.Prelude.{int_le, int_lt}
use lib.IntN.{pos, ◌+ℤ◌, ◌-ℤ◌}
use lib.Signed.{◌≤ℤ◌}
use Rattle.geom.proofs.Products.{is_le, le_of}
use Rattle.geom.proofs.Quotients.{quotient_parts}
use Rattle.geom.specs.Device.{DevicePoint, pixel_centre, pixel_of}
use Rattle.geom.specs.EvenOdd.{is_inside}
use Rattle.geom.specs.World.{Place}
use Rattle.mapdefs.specs.declared.layer.Geometry.{Geometry}
use Rattle.mapdefs.specs.declared.layer.Geometry.TheVariants as kind
use Rattle.strokes.specs.Line.{covers_centre, covers_pixel, edges_of, line_of, segments_of, square_at}
use Rattle.strokes.specs.Segment.{covers_segment}
use Rattle.strokes.specs.Square.{covers_square, is_beside}
use Rattle.viewport.specs.View.{ViewValue, device_point}
use Rattle.strokes.proofs.Short.{or-cases}
use Rattle.vertices.proofs.Finding.{must-pass}
use Rattle.vertices.proofs.NearEdges.{parts-fail}
use Rattle.vertices.proofs.NearLines.{bottom-segment, left-segment, right-segment, segments-edges, squares-points, top-segment}
use Rattle.vertices.proofs.NearShapes.{above-fails, below-fails, left-inside, none-inside, right-fails}
use Rattle.featureinfo.specs.Hits.{covers_plainly}
use Rattle.featureinfo.specs.Nearby.{IsOf}
use Rattle.featureinfo.specs.Reach.{is_far, is_within, limit_of, reaches}
use Rattle.featureinfo.specs.declared.nearby.Nearby.{Nearby}
use Rattle.featureinfo.specs.declared.side.Side.{Side}
use Rattle.featureinfo.specs.declared.side.Side.TheVariants.{Right, Left, Bottom, Top}

-- where some element passes a test, some element passes a weaker one
pub any-more : {X : Type 0} (f g : X → Bool) (xs : List X) → ((x : X) → f x ≡ true → g x ≡ true) → list_any f xs ≡ true → list_any g xs ≡ true
any-more f g [] more h = h
any-more f g (x ∷ xs) more h = of (λ e. any-more f g xs more e) (f x) refl h (g x) refl
  where
    of : (list_any f xs ≡ true → list_any g xs ≡ true) → (a : Bool) → f x ≡ a → (a || list_any f xs) ≡ true → (b : Bool) → g x ≡ b → (b || list_any g xs) ≡ true
    of later a e h true d = refl
    of later true e h false d = let t = more x e in let clash : false ≡ true = sym d ∙ t in cc
    of later false e h false d = later h

-- a test of some part's elements is one of all elements
pub nested : {X : Type 0} (f : X → Bool) (parts : List (List X)) → list_any (λ part. list_any f part) parts ≡ list_any f (flat_map (λ part. part) parts)
nested f [] = refl
nested f (part ∷ parts) = ap (λ b. list_any f part || b) (nested f parts) ∙ sym (list_any-append f part (flat_map (λ p. p) parts))

-- a test of points that are mapped
pub mapped : {X Y : Type 0} (g : X → Y) (f : Y → Bool) (parts : List (List X)) →
    list_any (λ part. list_any f part) (map (map g) parts) ≡ list_any (λ part. list_any (λ x. f (g x)) part) parts
mapped {X} {Y} g f [] = refl
mapped {X} {Y} g f (part ∷ parts) = rw (one part, mapped g f parts) refl
  where
    one : (xs : List X) → list_any f (map g xs) ≡ list_any (λ x. f (g x)) xs
    one [] = refl
    one (x ∷ xs) = ap (λ b. f (g x) || b) (one xs)

module _ (view : ViewValue) (parts : List (List Place)) (n : Nearby) (c r : ℕ) (of : IsOf n c r) where
  -- vertices that lie on the near side of the pixel's centre, by 16 at most, are within the limit
  from-test : (side : Side) (f : Place → Bool) → ((q : Place) → f q ≡ true → is_within side (limit_of n side) (device_point view q) ≡ true) →
      list_any f (flat_map (λ part. part) parts) ≡ true → reaches view parts (limit_of n side) side ≡ true
  from-test side f more h =
      nested (λ place. is_within side (limit_of n side) (device_point view place)) parts
      ∙ any-more f (λ place. is_within side (limit_of n side) (device_point view place)) (flat_map (λ part. part) parts) more h

  -- a vertex left or right of the centre, above or below it, by at most a pixel
  right-more : (k : ℕ) (q : Place) → k ≤ 16 → int_le (device_point view q).x ((pixel_centre (pos c) (pos r)).x +ℤ pos k) ≡ true → is_within Right (limit_of n Right) (device_point view q) ≡ true
  right-more k q few h = is_le (device_point view q).x (pos (16 * n.right + 8)) (omega (arith, ints, le_of (device_point view q).x ((pixel_centre (pos c) (pos r)).x +ℤ pos k) h, of.right))

  left-more : (k : ℕ) (q : Place) → k ≤ 16 → int_le ((pixel_centre (pos c) (pos r)).x -ℤ pos k) (device_point view q).x ≡ true → is_within Left (limit_of n Left) (device_point view q) ≡ true
  left-more k q few h = is_le (pos (16 * n.left) -ℤ pos 8) (device_point view q).x (omega (arith, ints, le_of ((pixel_centre (pos c) (pos r)).x -ℤ pos k) (device_point view q).x h, of.left))

  bottom-more : (k : ℕ) (q : Place) → k ≤ 16 → int_le (device_point view q).y ((pixel_centre (pos c) (pos r)).y +ℤ pos k) ≡ true → is_within Bottom (limit_of n Bottom) (device_point view q) ≡ true
  bottom-more k q few h = is_le (device_point view q).y (pos (16 * n.bottom + 8)) (omega (arith, ints, le_of (device_point view q).y ((pixel_centre (pos c) (pos r)).y +ℤ pos k) h, of.bottom))

  top-more : (k : ℕ) (q : Place) → k ≤ 16 → int_le ((pixel_centre (pos c) (pos r)).y -ℤ pos k) (device_point view q).y ≡ true → is_within Top (limit_of n Top) (device_point view q) ≡ true
  top-more k q few h = is_le (pos (16 * n.top) -ℤ pos 8) (device_point view q).y (omega (arith, ints, le_of ((pixel_centre (pos c) (pos r)).y -ℤ pos k) (device_point view q).y h, of.top))

  -- a polygon
  fill-reaches : is_inside (map (map (device_point view)) parts) (pixel_centre (pos c) (pos r)) ≡ true → (side : Side) → reaches view parts (limit_of n side) side ≡ true
  fill-reaches inside Right =
      let at : Place → DevicePoint = device_point view in
      let p : DevicePoint = pixel_centre (pos c) (pos r) in
      from-test Right (λ q. int_le (at q).x p.x) (λ (q : Place) (h : int_le (at q).x p.x ≡ true). is_le (at q).x (pos (16 * n.right + 8)) (omega (arith, ints, le_of (at q).x p.x h, of.right)))
      (must-pass _ _ (none-inside parts at (λ v. int_le v.x p.x) p (right-fails p)) inside)
  fill-reaches inside Left =
      let at : Place → DevicePoint = device_point view in
      let p : DevicePoint = pixel_centre (pos c) (pos r) in
      from-test Left (λ q. int_lt p.x (at q).x) (λ (q : Place) (h : int_lt p.x (at q).x ≡ true). is_le (pos (16 * n.left) -ℤ pos 8) (at q).x (omega (arith, ints, h, of.left)))
      (must-pass _ _ (left-inside parts at p) inside)
  fill-reaches inside Bottom =
      let at : Place → DevicePoint = device_point view in
      let p : DevicePoint = pixel_centre (pos c) (pos r) in
      from-test Bottom (λ q. int_le (at q).y p.y) (λ (q : Place) (h : int_le (at q).y p.y ≡ true). is_le (at q).y (pos (16 * n.bottom + 8)) (omega (arith, ints, le_of (at q).y p.y h, of.bottom)))
      (must-pass _ _ (none-inside parts at (λ v. int_le v.y p.y) p (below-fails p)) inside)
  fill-reaches inside Top =
      let at : Place → DevicePoint = device_point view in
      let p : DevicePoint = pixel_centre (pos c) (pos r) in
      from-test Top (λ q. int_lt p.y (at q).y) (λ (q : Place) (h : int_lt p.y (at q).y ≡ true). is_le (pos (16 * n.top) -ℤ pos 8) (at q).y (omega (arith, ints, h, of.top)))
      (must-pass _ _ (none-inside parts at (λ v. int_lt p.y v.y) p (above-fails p)) inside)

  -- a line one pixel wide, by a segment
  segments-reach : list_any (λ e. covers_segment 1 e (pixel_centre (pos c) (pos r))) (flat_map (edges_of false) (map (map (device_point view)) parts)) ≡ true →
      (side : Side) → reaches view parts (limit_of n side) side ≡ true
  segments-reach covered Right =
      let at : Place → DevicePoint = device_point view in
      let p : DevicePoint = pixel_centre (pos c) (pos r) in
      from-test Right (λ q. int_le (at q).x (p.x +ℤ pos (8 * 1))) (λ q h. right-more 8 q (omega arith) h)
      (must-pass _ _ (parts-fail false at (λ v. int_le v.x (p.x +ℤ pos (8 * 1))) (λ e. covers_segment 1 e p) (right-segment 1 p) parts) covered)
  segments-reach covered Left =
      let at : Place → DevicePoint = device_point view in
      let p : DevicePoint = pixel_centre (pos c) (pos r) in
      from-test Left (λ q. int_le (p.x -ℤ pos (8 * 1)) (at q).x) (λ q h. left-more 8 q (omega arith) h)
      (must-pass _ _ (parts-fail false at (λ v. int_le (p.x -ℤ pos (8 * 1)) v.x) (λ e. covers_segment 1 e p) (left-segment 1 p) parts) covered)
  segments-reach covered Bottom =
      let at : Place → DevicePoint = device_point view in
      let p : DevicePoint = pixel_centre (pos c) (pos r) in
      from-test Bottom (λ q. int_le (at q).y (p.y +ℤ pos (8 * 1))) (λ q h. bottom-more 8 q (omega arith) h)
      (must-pass _ _ (parts-fail false at (λ v. int_le v.y (p.y +ℤ pos (8 * 1))) (λ e. covers_segment 1 e p) (bottom-segment 1 p) parts) covered)
  segments-reach covered Top =
      let at : Place → DevicePoint = device_point view in
      let p : DevicePoint = pixel_centre (pos c) (pos r) in
      from-test Top (λ q. int_le (p.y -ℤ pos (8 * 1)) (at q).y) (λ q h. top-more 8 q (omega arith) h)
      (must-pass _ _ (parts-fail false at (λ v. int_le (p.y -ℤ pos (8 * 1)) v.y) (λ e. covers_segment 1 e p) (top-segment 1 p) parts) covered)

  -- a vertex whose pixel is the covered one
  vertex-within : (v : DevicePoint) → covers_square (square_at 1 v) (pos c) (pos r) ≡ true → (side : Side) → is_within side (limit_of n side) v ≡ true
  unfolding covers_square
  vertex-within v h side =
      let both = and_parts (is_beside 1 (pixel_of v).i (pos c)) (is_beside 1 (pixel_of v).j (pos r)) h in
      let across = and_parts (int_le ((pixel_of v).i -ℤ pos 0) (pos c)) (int_le (pos c) ((pixel_of v).i +ℤ pos 0)) both.0 in
      let down = and_parts (int_le ((pixel_of v).j -ℤ pos 0) (pos r)) (int_le (pos r) ((pixel_of v).j +ℤ pos 0)) both.1 in
      let right : (pixel_of v).i ≤ℤ pos c = omega (arith, ints, le_of ((pixel_of v).i -ℤ pos 0) (pos c) across.0) in
      let left : pos c ≤ℤ (pixel_of v).i = omega (arith, ints, le_of (pos c) ((pixel_of v).i +ℤ pos 0) across.1) in
      let below : (pixel_of v).j ≤ℤ pos r = omega (arith, ints, le_of ((pixel_of v).j -ℤ pos 0) (pos r) down.0) in
      let above : pos r ≤ℤ (pixel_of v).j = omega (arith, ints, le_of (pos r) ((pixel_of v).j +ℤ pos 0) down.1) in
      let x = quotient_parts v.x (pos 16) (omega (arith, ints)) in
      let y = quotient_parts v.y (pos 16) (omega (arith, ints)) in
      at-side side
      (omega (arith, ints, x.1, right, of.right)) (omega (arith, ints, x.0, left, of.left))
      (omega (arith, ints, y.1, below, of.bottom)) (omega (arith, ints, y.0, above, of.top))
    where
      at-side : (s : Side) → v.x ≤ℤ pos (16 * n.right + 8) → (pos (16 * n.left) -ℤ pos 8) ≤ℤ v.x → v.y ≤ℤ pos (16 * n.bottom + 8) → (pos (16 * n.top) -ℤ pos 8) ≤ℤ v.y →
          is_within s (limit_of n s) v ≡ true
      at-side Right a b d e = is_le v.x (pos (16 * n.right + 8)) a
      at-side Left a b d e = is_le (pos (16 * n.left) -ℤ pos 8) v.x b
      at-side Bottom a b d e = is_le v.y (pos (16 * n.bottom + 8)) d
      at-side Top a b d e = is_le (pos (16 * n.top) -ℤ pos 8) v.y e

  squares-reach : list_any (λ q. covers_square (square_at 1 (device_point view q)) (pos c) (pos r)) (flat_map (λ part. part) parts) ≡ true →
      (side : Side) → reaches view parts (limit_of n side) side ≡ true
  squares-reach covered side = from-test side (λ q. covers_square (square_at 1 (device_point view q)) (pos c) (pos r)) (λ q h. vertex-within (device_point view q) h side) covered

  line-reaches : covers_pixel (line_of (map (map (device_point view)) parts) false 1) (pos c) (pos r) ≡ true → (side : Side) → reaches view parts (limit_of n side) side ≡ true
  line-reaches covered side =
      let lines : List (List DevicePoint) = map (map (device_point view)) parts in
      ⊎_elim
      (λ (h : list_any (covers_centre (pos c) (pos r)) (flat_map (segments_of false 1) lines) ≡ true). segments-reach (sym (segments-edges false 1 c r lines) ∙ h) side)
      (λ (h : list_any (λ s. covers_square s (pos c) (pos r)) (flat_map (map (square_at 1)) lines) ≡ true). squares-reach (sym (squares-points (device_point view) 1 c r parts) ∙ h) side)
      (or-cases (list_any (covers_centre (pos c) (pos r)) (flat_map (segments_of false 1) lines)) (list_any (λ s. covers_square s (pos c) (pos r)) (flat_map (map (square_at 1)) lines)) covered)

  points-reach : list_any (λ part. list_any (λ vertex. covers_square (square_at 1 vertex) (pos c) (pos r)) part) (map (map (device_point view)) parts) ≡ true →
      (side : Side) → reaches view parts (limit_of n side) side ≡ true
  points-reach covered side =
      squares-reach (sym (nested (λ q. covers_square (square_at 1 (device_point view q)) (pos c) (pos r)) parts) ∙ sym (mapped (device_point view) (λ vertex. covers_square (square_at 1 vertex) (pos c) (pos r)) parts) ∙ covered) side

-- whatever its kind, a feature whose plain cover has the pixel
pub all-reach : (view : ViewValue) (k : Geometry) (parts : List (List Place)) (n : Nearby) (c r : ℕ) → IsOf n c r → covers_plainly view k parts c r ≡ true →
    (side : Side) → reaches view parts (limit_of n side) side ≡ true
all-reach view kind.Polygon parts n c r of covered side = fill-reaches view parts n c r of covered side
all-reach view kind.Line parts n c r of covered side = line-reaches view parts n c r of covered side
all-reach view kind.Point parts n c r of covered side = points-reach view parts n c r of covered side

-- so it isn't far
pub not-far : (view : ViewValue) (k : Geometry) (parts : List (List Place)) (n : Nearby) (c r : ℕ) → IsOf n c r → covers_plainly view k parts c r ≡ true → is_far view parts n ≡ false
not-far view k parts n c r of covered =
    rw (all-reach view k parts n c r of covered Right, all-reach view k parts n c r of covered Left, all-reach view k parts n c r of covered Bottom, all-reach view k parts n c r of covered Top) refl
