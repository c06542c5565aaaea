-- A point's pixel is among those near the queried one exactly where the pixels of the points cover one of them.
use Rattle.std.proofs.Common.{◌≡◌, ◌∙◌, ◌↔◌, ℕ, ◌<◌, ◌≤◌, Bool, true, false, ◌&&◌, List, refl, sym, arith, IsTrue}
use Rattle.std.proofs.lemmas.Bool.{and_parts}
use Rattle.std.proofs.lemmas.Int.{ints}
use Rattle.std.proofs.lemmas.List.Folds.{Any-from_list_any, list_any-from_Any}
use Rattle.std.specs.List.{list_any}
use Rattle.std.specs.Prelude.{int_le, int_lt}
use lib.IntN.{ℤ, pos, negsuc, ◌+ℤ◌, ◌-ℤ◌}
use lib.Signed.{◌≤ℤ◌}
use Rattle.geom.proofs.Products.{is_le, is_lt, le_of, lt_of}
use Rattle.geom.specs.Device.{DevicePoint, PixelValue, pixel_of}
use Rattle.geom.specs.World.{Place}
use Rattle.mapdefs.specs.declared.layer.Geometry.TheVariants as kind
use Rattle.strokes.specs.Line.{square_at}
use Rattle.strokes.specs.Square.{covers_square, is_beside}
use Rattle.viewport.specs.View.{ViewValue, device_point}
use Rattle.featureinfo.specs.Hits.{covers_plainly}
use Rattle.featureinfo.specs.Nearby.{SomeNear, has_pixel, part_near, points_near}
use Rattle.featureinfo.specs.declared.nearby.Nearby.{Nearby}
use Rattle.featureinfo.proofs.Reaching.{any-more, mapped}

-- a column or row that isn't below 0
record IsIndex (z : ℤ) : Type 0 where
  at : ℕ
  is : z ≡ pos at

index-of : (z : ℤ) (n : ℕ) → pos n ≤ℤ z → IsIndex z
index-of (pos k) n h = record { at = k; is = refl }
index-of (negsuc k) n h = absurd (omega (arith, ints, h))

-- the square of one pixel is that pixel
one-pixel : (v : DevicePoint) (c r : ℕ) → (pixel_of v).i ≡ pos c → (pixel_of v).j ≡ pos r → covers_square (square_at 1 v) (pos c) (pos r) ≡ true
unfolding covers_square
one-pixel v c r i j =
    rw (
      is_le ((pixel_of v).i -ℤ pos 0) (pos c) (omega (arith, ints, i)),
      is_le (pos c) ((pixel_of v).i +ℤ pos 0) (omega (arith, ints, i)),
      is_le ((pixel_of v).j -ℤ pos 0) (pos r) (omega (arith, ints, j)),
      is_le (pos r) ((pixel_of v).j +ℤ pos 0) (omega (arith, ints, j)),
    ) refl

-- a covered pixel is among the near ones
has-covered : (n : Nearby) (v : DevicePoint) (c r : ℕ) → n.left ≤ c → c < n.right → n.top ≤ r → r < n.bottom →
    covers_square (square_at 1 v) (pos c) (pos r) ≡ true → has_pixel n (pixel_of v) ≡ true
unfolding covers_square
has-covered n v c r left right top bottom h =
    let both = and_parts (is_beside 1 (pixel_of v).i (pos c)) (is_beside 1 (pixel_of v).j (pos r)) h in
    let across = and_parts (int_le ((pixel_of v).i -ℤ pos 0) (pos c)) (int_le (pos c) ((pixel_of v).i +ℤ pos 0)) both.0 in
    let down = and_parts (int_le ((pixel_of v).j -ℤ pos 0) (pos r)) (int_le (pos r) ((pixel_of v).j +ℤ pos 0)) both.1 in
    let a = le_of ((pixel_of v).i -ℤ pos 0) (pos c) across.0 in
    let b = le_of (pos c) ((pixel_of v).i +ℤ pos 0) across.1 in
    let d = le_of ((pixel_of v).j -ℤ pos 0) (pos r) down.0 in
    let e = le_of (pos r) ((pixel_of v).j +ℤ pos 0) down.1 in
    rw (
      is_le (pos n.left) (pixel_of v).i (omega (arith, ints, b, left)),
      is_lt (pixel_of v).i (pos n.right) (omega (arith, ints, a, right)),
      is_le (pos n.top) (pixel_of v).j (omega (arith, ints, e, top)),
      is_lt (pixel_of v).j (pos n.bottom) (omega (arith, ints, d, bottom)),
    ) refl

module _ (view : ViewValue) (n : Nearby) where
  -- from a point's pixel to a covered one
  from-pixel : (parts : List (List Place)) → points_near view parts n ≡ true → SomeNear n (covers_plainly view kind.Point parts)
  from-pixel parts h =
      let (k, part, within, is, some) = Any-from_list_any (λ (part : List Place). part_near view part n) parts h in
      let (m, place, inside, same, near) = Any-from_list_any (λ (place : Place). has_pixel n (pixel_of (device_point view place))) part some in
      let v : DevicePoint = device_point view place in
      let p : PixelValue = pixel_of v in
      let three = and_parts (int_le (pos n.left) p.i && int_lt p.i (pos n.right) && int_le (pos n.top) p.j) (int_lt p.j (pos n.bottom)) near in
      let two = and_parts (int_le (pos n.left) p.i && int_lt p.i (pos n.right)) (int_le (pos n.top) p.j) three.0 in
      let one = and_parts (int_le (pos n.left) p.i) (int_lt p.i (pos n.right)) two.0 in
      let column = index-of p.i n.left (le_of (pos n.left) p.i one.0) in
      let row = index-of p.j n.top (le_of (pos n.top) p.j two.1) in
      record {
        column = column.at;
        row = row.at;
        left = omega (arith, ints, le_of (pos n.left) p.i one.0, column.is);
        right = omega (arith, ints, lt_of p.i (pos n.right) one.1, column.is);
        top = omega (arith, ints, le_of (pos n.top) p.j two.1, row.is);
        bottom = omega (arith, ints, lt_of p.j (pos n.bottom) three.1, row.is);
        passes =
            mapped (device_point view) (λ (vertex : DevicePoint). covers_square (square_at 1 vertex) (pos column.at) (pos row.at)) parts
            ∙ list_any-from_Any (λ (part : List Place). list_any (λ (q : Place). covers_square (square_at 1 (device_point view q)) (pos column.at) (pos row.at)) part) parts (
              k,
              part,
              within,
              is,
              list_any-from_Any (λ (q : Place). covers_square (square_at 1 (device_point view q)) (pos column.at) (pos row.at)) part
                  (m, place, inside, same, one-pixel v column.at row.at column.is row.is),
            );
      }

  -- and from a covered one to a point's pixel
  from-covered : (parts : List (List Place)) → SomeNear n (covers_plainly view kind.Point parts) → points_near view parts n ≡ true
  from-covered parts near =
      any-more (λ (part : List Place). list_any (λ (q : Place). covers_square (square_at 1 (device_point view q)) (pos near.column) (pos near.row)) part)
      (λ (part : List Place). part_near view part n) parts
      (λ (part : List Place) some. any-more (λ (q : Place). covers_square (square_at 1 (device_point view q)) (pos near.column) (pos near.row))
      (λ (q : Place). has_pixel n (pixel_of (device_point view q))) part
      (λ (q : Place) h. has-covered n (device_point view q) near.column near.row near.left near.right near.top near.bottom h) some)
      (sym (mapped (device_point view) (λ (vertex : DevicePoint). covers_square (square_at 1 vertex) (pos near.column) (pos near.row)) parts) ∙ near.passes)

is-true : (b : Bool) → b ≡ true → IsTrue b
is-true true h = refl
is-true false h = cc

from-true : (b : Bool) → IsTrue b → b ≡ true
from-true true h = refl
from-true false h = cc

pub points-near : (view : ViewValue) (n : Nearby) (parts : List (List Place)) (b : Bool) → b ≡ points_near view parts n → IsTrue b ↔ SomeNear n (covers_plainly view kind.Point parts)
points-near view n parts b is = (λ t. from-pixel view n parts (sym is ∙ from-true b t), λ near. is-true b (is ∙ from-covered view n parts near))
