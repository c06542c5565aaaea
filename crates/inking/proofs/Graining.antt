-- A box of whole grains round a place lies in one pixel.
use Rattle.std.proofs.Common.{◌≡◌, ◌∙◌, ℕ, ◌-◌, ◌*◌, ◌^◌, ◌<◌, ◌≤◌, ◌&&◌, true, ap, arith}
use Rattle.std.proofs.lemmas.Bool.{and_from}
use Rattle.std.proofs.lemmas.Int.{ints}
use Rattle.std.specs.Int.{int_div_euclid}
use Rattle.std.specs.Prelude.{int_le}
use lib.IntN.{ℤ, pos, ◌+ℤ◌, ◌-ℤ◌, ◌*ℤ◌}
use lib.Signed.{◌<ℤ◌, ◌≤ℤ◌}
use mir.Syntax.{w64}
use mir.Val.{of_z, to_z}
use Rattle.geom.proofs.Products.{add-mul, is_le, mul-add, mul-left_comm, mul-sub, product_nonneg}
use Rattle.geom.proofs.Quotients.{at_most-by_product, quotient_is, quotient_parts}
use Rattle.geom.specs.Device.{PixelValue, pixel_of}
use Rattle.geom.specs.Range.{IsBelow}
use Rattle.geom.specs.World.{Area, IsCoordinate, IsExtent, Place}
use Rattle.scanfill.proofs.Words.{product-below, word}
use Rattle.viewport.specs.View.{ViewValue, device_point, down_of, height_of, sixteenths, steepest}
use Rattle.viewport.specs.declared.heights.Heights.{Heights}
use Rattle.viewport.proofs.Rising.{rising-law, slowly-law}
use Rattle.inking.specs.Grain.{AreOfPixel, AreOfRow, IsGrain, row_at}
use Rattle.inking.specs.Stroked.{has_place}
use Rattle.vertices.proofs.Placing.{down-falling}
use Rattle.inking.proofs.Quieting.{LiesIn, lies-in}

-- so many grains before a part its share is less by no more sixteenths than that
shares-before : (times part other whole grain : ℤ) (n : ℕ) → pos 0 ≤ℤ times → (times *ℤ grain) ≤ℤ whole → (part -ℤ pos n *ℤ grain) ≤ℤ other →
    (times *ℤ part -ℤ pos n *ℤ whole) ≤ℤ (times *ℤ other)
shares-before times part other whole grain n some fits least =
    let more : pos 0 ≤ℤ (times *ℤ (other -ℤ (part -ℤ pos n *ℤ grain))) = product_nonneg times (other -ℤ (part -ℤ pos n *ℤ grain)) some (omega (arith, ints)) in
    let enough : pos 0 ≤ℤ (pos n *ℤ (whole -ℤ times *ℤ grain)) = product_nonneg (pos n) (whole -ℤ times *ℤ grain) (omega (arith, ints)) (omega (arith, ints)) in
    omega (arith, ints, more, enough, mul-sub times other (part -ℤ pos n *ℤ grain), mul-sub times part (pos n *ℤ grain), mul-left_comm times (pos n) grain, mul-sub (pos n) whole (times *ℤ grain))

-- and so many past it, it is more by no more
shares-past : (times part other whole grain : ℤ) (n : ℕ) → pos 0 ≤ℤ times → (times *ℤ grain) ≤ℤ whole → other ≤ℤ (part +ℤ pos n *ℤ grain) →
    (times *ℤ other) ≤ℤ (times *ℤ part +ℤ pos n *ℤ whole)
shares-past times part other whole grain n some fits most =
    let more : pos 0 ≤ℤ (times *ℤ (part +ℤ pos n *ℤ grain -ℤ other)) = product_nonneg times (part +ℤ pos n *ℤ grain -ℤ other) some (omega (arith, ints)) in
    let enough : pos 0 ≤ℤ (pos n *ℤ (whole -ℤ times *ℤ grain)) = product_nonneg (pos n) (whole -ℤ times *ℤ grain) (omega (arith, ints)) (omega (arith, ints)) in
    omega (arith, ints, more, enough, mul-sub times (part +ℤ pos n *ℤ grain) other, mul-add times part (pos n *ℤ grain), mul-left_comm times (pos n) grain, mul-sub (pos n) whole (times *ℤ grain))

-- a part no more grains away than the pixel has sixteenths on that side lies in the same pixel
pub same-pixel-of : (pixels : ℕ) (part other whole grain : ℤ) (n : ℕ) → pos 0 <ℤ whole → IsGrain pixels whole grain → n ≤ 15 →
    sixteenths pixels part whole ≡ int_div_euclid (sixteenths pixels part whole) (pos 16) *ℤ pos 16 +ℤ pos n →
    (part -ℤ pos n *ℤ grain) ≤ℤ other → other ≤ℤ (part +ℤ pos (15 - n) *ℤ grain) →
    int_div_euclid (sixteenths pixels other whole) (pos 16) ≡ int_div_euclid (sixteenths pixels part whole) (pos 16)
unfolding sixteenths
same-pixel-of pixels part other whole grain n some is small at least most =
    let times = pos (16 * pixels) in
    let d = int_div_euclid (times *ℤ part) whole in
    let e = int_div_euclid (times *ℤ other) whole in
    let q = int_div_euclid d (pos 16) in
    let first = quotient_parts (times *ℤ part) whole some in
    let second = quotient_parts (times *ℤ other) whole some in
    let before = shares-before times part other whole grain n (omega (arith, ints)) is.fits least in
    let past = shares-past times part other whole grain (15 - n) (omega (arith, ints)) is.fits most in
    let split : d *ℤ whole ≡ q *ℤ pos 16 *ℤ whole +ℤ pos n *ℤ whole = ap (λ z. z *ℤ whole) at ∙ add-mul (q *ℤ pos 16) (pos n) whole in
    let all : pos 15 ≡ pos n +ℤ pos (15 - n) = omega (arith, ints, small) in
    let rest : pos 15 *ℤ whole ≡ pos n *ℤ whole +ℤ pos (15 - n) *ℤ whole = ap (λ z. z *ℤ whole) all ∙ add-mul (pos n) (pos (15 - n)) whole in
    let low : (q *ℤ pos 16) ≤ℤ e = at_most-by_product (q *ℤ pos 16) e whole some (omega (arith, ints, first.0, second.1, before, split)) in
    let high : e ≤ℤ (q *ℤ pos 16 +ℤ pos 15) =
    at_most-by_product e (q *ℤ pos 16 +ℤ pos 15) whole some (omega (arith, ints, first.1, second.0, past, split, rest, add-mul (q *ℤ pos 16) (pos 15) whole)) in
    quotient_is e (pos 16) q (omega (arith, ints)) low (omega (arith, ints, high))

-- also where both are counted from a column further right
pub moved-pixel-of : (pixels first : ℕ) (part other whole grain : ℤ) (n : ℕ) → pos 0 <ℤ whole → IsGrain pixels whole grain → n ≤ 15 →
    sixteenths pixels part whole -ℤ pos (16 * first) ≡ int_div_euclid (sixteenths pixels part whole -ℤ pos (16 * first)) (pos 16) *ℤ pos 16 +ℤ pos n →
    (part -ℤ pos n *ℤ grain) ≤ℤ other → other ≤ℤ (part +ℤ pos (15 - n) *ℤ grain) →
    int_div_euclid (sixteenths pixels other whole -ℤ pos (16 * first)) (pos 16) ≡ int_div_euclid (sixteenths pixels part whole -ℤ pos (16 * first)) (pos 16)
moved-pixel-of pixels first part other whole grain n some is small at least most =
    let s = sixteenths pixels part whole in
    let o = sixteenths pixels other whole in
    let here : s ≡ int_div_euclid s (pos 16) *ℤ pos 16 +ℤ pos n = omega (arith, ints, pixels-moved s first, at) in
    let same = same-pixel-of pixels part other whole grain n some is small here least most in
    omega (arith, ints, pixels-moved s first, pixels-moved o first, same)
  where
    pixels-moved : (z : ℤ) (first : ℕ) → int_div_euclid (z -ℤ pos (16 * first)) (pos 16) ≡ int_div_euclid z (pos 16) -ℤ pos first
    pixels-moved z first =
        let parts = quotient_parts z (pos 16) (omega (arith, ints)) in
        quotient_is (z -ℤ pos (16 * first)) (pos 16) (int_div_euclid z (pos 16) -ℤ pos first) (omega (arith, ints)) (omega (arith, ints, parts.0)) (omega (arith, ints, parts.1))

-- what i64 holds of a coordinate, and of one that is moved by so many grains
pub coordinate-held : (a z : ℤ) → a ≡ z → IsCoordinate z → IsBelow (2 ^ 31) (to_z w64 (of_z w64 a))
coordinate-held a z e h = record { above = omega (arith, ints, e, h); below = omega (arith, ints, e, h) }

pub grains-below : (count : ℕ) (grain : ℤ) → count < 2 ^ 8 → IsBelow (2 ^ 31) grain → IsBelow (2 ^ 39) (pos count *ℤ grain)
grains-below count grain few h = product-below (2 ^ 8) (2 ^ 31) (pos count) grain (record { above = omega (arith, ints, few); below = omega (arith, ints, few) }) h

pub less-is : (number from grain : ℤ) (count : ℕ) → from ≡ pos count → count < 2 ^ 8 → IsBelow (2 ^ 31) number → IsBelow (2 ^ 31) grain →
    to_z w64 (of_z w64 (to_z w64 (of_z w64 number) -ℤ to_z w64 (of_z w64 (to_z w64 (of_z w64 from) *ℤ to_z w64 (of_z w64 grain))))) ≡ number -ℤ pos count *ℤ grain
less-is number from grain count e few h k =
    let held : to_z w64 (of_z w64 from) ≡ pos count = omega (arith, ints, e, few) in
    let product = grains-below count grain few k in
    rw (held, word (2 ^ 31) grain (omega arith) k, word (2 ^ 39) (pos count *ℤ grain) (omega arith) product, word (2 ^ 31) number (omega arith) h)
    (word (2 ^ 40) (number -ℤ pos count *ℤ grain) (omega arith) (record { above = omega (arith, ints, h, product); below = omega (arith, ints, h, product) }))

pub more-is : (number from grain : ℤ) (count : ℕ) → from ≡ pos count → count < 2 ^ 8 → IsBelow (2 ^ 31) number → IsBelow (2 ^ 31) grain →
    to_z w64 (of_z w64 (to_z w64 (of_z w64 number) +ℤ to_z w64 (of_z w64 (to_z w64 (of_z w64 from) *ℤ to_z w64 (of_z w64 grain))))) ≡ number +ℤ pos count *ℤ grain
more-is number from grain count e few h k =
    let held : to_z w64 (of_z w64 from) ≡ pos count = omega (arith, ints, e, few) in
    let product = grains-below count grain few k in
    rw (held, word (2 ^ 31) grain (omega arith) k, word (2 ^ 39) (pos count *ℤ grain) (omega arith) product, word (2 ^ 31) number (omega arith) h)
    (word (2 ^ 40) (number +ℤ pos count *ℤ grain) (omega arith) (record { above = omega (arith, ints, h, product); below = omega (arith, ints, h, product) }))

-- a place between the sides of a box lies in it
pub in-box : (box : Area) (place : Place) → LiesIn box place → has_place box place ≡ true
in-box box place is = and_from (int_le box.minx place.x && int_le place.x box.maxx) (int_le box.miny place.y && int_le place.y box.maxy)
    (and_from (int_le box.minx place.x) (int_le place.x box.maxx) (is_le box.minx place.x is.west) (is_le place.x box.maxx is.east))
    (and_from (int_le box.miny place.y) (int_le place.y box.maxy) (is_le box.miny place.y is.south) (is_le place.y box.maxy is.north))

-- the box of so many grains on each side of a place
abbrev pub grains_around : ℤ → ℤ → Place → ℕ → ℕ → Area
grains_around across down place left top = record {
  minx = place.x -ℤ pos left *ℤ across;
  miny = place.y -ℤ pos (15 - top) *ℤ down;
  maxx = place.x +ℤ pos (15 - left) *ℤ across;
  maxy = place.y +ℤ pos top *ℤ down;
}

pub around-has : (across down : ℤ) (place : Place) (left top : ℕ) → pos 0 ≤ℤ across → pos 0 ≤ℤ down → has_place (grains_around across down place left top) place ≡ true
around-has across down place left top across_least down_least = in-box (grains_around across down place left top) place (record {
  west = omega (arith, ints, product_nonneg (pos left) across (omega (arith, ints)) across_least);
  east = omega (arith, ints, product_nonneg (pos (15 - left)) across (omega (arith, ints)) across_least);
  south = omega (arith, ints, product_nonneg (pos (15 - top)) down (omega (arith, ints)) down_least);
  north = omega (arith, ints, product_nonneg (pos top) down (omega (arith, ints)) down_least);
})

-- what makes no more than a grain is one
pub flat-grain : (pixels : ℕ) (whole grain other : ℤ) → IsGrain pixels whole grain → pos 0 ≤ℤ other → other ≤ℤ grain → IsGrain pixels whole other
flat-grain pixels whole grain other is least most =
    let more : pos 0 ≤ℤ (pos (16 * pixels) *ℤ (grain -ℤ other)) = product_nonneg (pos (16 * pixels)) (grain -ℤ other) (omega (arith, ints)) (omega (arith, ints, most)) in
    record {
      least = least;
      most = record { above = omega (arith, ints, is.most, least); below = omega (arith, ints, is.most, most) };
      fits = omega (arith, ints, is.fits, more, mul-sub (pos (16 * pixels)) grain other);
    }

-- so many grains further north the height is greater by no more than they make where heights rise the most
times-above : (h : Heights) (a b : ℤ) (n : ℕ) (down : ℤ) → pos 0 ≤ℤ down → b ≤ℤ (a +ℤ pos n *ℤ down) →
    height_of h b ≤ℤ (height_of h a +ℤ pos n *ℤ (pos (steepest h) *ℤ down))
times-above h a b n down least most =
    let step = pos n *ℤ down in
    let some : pos 0 ≤ℤ step = product_nonneg (pos n) down (omega (arith, ints)) least in
    let up = rising-law h b (a +ℤ step) most in
    let slow = slowly-law h a (a +ℤ step) (omega (arith, ints, some)) in
    let same : (a +ℤ step) -ℤ a ≡ step = omega (arith, ints) in
    let most_up : (height_of h (a +ℤ step) -ℤ height_of h a) ≤ℤ (pos (steepest h) *ℤ step) = rw same at slow in
    omega (arith, ints, up, most_up, mul-left_comm (pos (steepest h)) (pos n) down)

-- latitudes of so many grains round one lie in its row, if the grains make no more of height than a grain where heights rise the most
pub flat-row : (view : ViewValue) (grain down latitude : ℤ) (top : ℕ) → IsExtent view.area →
    IsGrain view.rows (view.area.maxy -ℤ view.area.miny) grain → pos 0 ≤ℤ down → (pos (steepest view.heights) *ℤ down) ≤ℤ grain → top ≤ 15 →
    down_of view latitude ≡ row_at view latitude *ℤ pos 16 +ℤ pos top →
    AreOfRow view (latitude -ℤ pos (15 - top) *ℤ down) (latitude +ℤ pos top *ℤ down) (row_at view latitude)
flat-row view grain down latitude top extent is least fits few at other south north =
    let area = view.area in
    let h = view.heights in
    let times = pos (steepest h) in
    let flat = flat-grain view.rows (area.maxy -ℤ area.miny) grain (times *ℤ down) is (product_nonneg times down (omega (arith, ints)) least) fits in
    let above = times-above h latitude other top down least north in
    let below = times-above h other latitude (15 - top) down least (omega (arith, ints, south)) in
    moved-pixel-of view.rows view.top (area.maxy -ℤ height_of h latitude) (area.maxy -ℤ height_of h other) (area.maxy -ℤ area.miny) (times *ℤ down) top (omega (arith, ints, extent.rows)) flat few at
    (omega (arith, ints, above)) (omega (arith, ints, below))

-- what lies further north lies in no lower row
row-rising : (view : ViewValue) (a b : ℤ) → IsExtent view.area → a ≤ℤ b → row_at view b ≤ℤ row_at view a
row-rising view a b extent le =
    let more = down-falling view a b extent.rows le in
    let one = quotient_parts (down_of view a) (pos 16) (omega (arith, ints)) in
    let other = quotient_parts (down_of view b) (pos 16) (omega (arith, ints)) in
    at_most-by_product (row_at view b) (row_at view a) (pos 16) (omega (arith, ints)) (omega (arith, ints, one.1, other.0, more))

-- latitudes between two of one row lie in it
pub tested-row : (view : ViewValue) (south north row : ℤ) → IsExtent view.area → row_at view south ≡ row → row_at view north ≡ row → AreOfRow view south north row
tested-row view south north row extent low high latitude least most =
    omega (arith, ints, low, high, row-rising view south latitude extent least, row-rising view latitude north extent most)

pub around-pixel : (view : ViewValue) (across down : ℤ) (place : Place) (left top : ℕ) → IsExtent view.area → IsGrain view.columns (view.area.maxx -ℤ view.area.minx) across → left ≤ 15 →
    (device_point view place).x ≡ int_div_euclid (device_point view place).x (pos 16) *ℤ pos 16 +ℤ pos left →
    AreOfRow view (place.y -ℤ pos (15 - top) *ℤ down) (place.y +ℤ pos top *ℤ down) (pixel_of (device_point view place)).j →
    AreOfPixel view (grains_around across down place left top) (pixel_of (device_point view place))
around-pixel view across down place left top extent is narrow x rows p has =
    let area = view.area in
    let in_box = lies-in (grains_around across down place left top) p has in
    let column = moved-pixel-of view.columns view.left (place.x -ℤ area.minx) (p.x -ℤ area.minx) (area.maxx -ℤ area.minx) across left (omega (arith, ints, extent.columns)) is narrow x
    (omega (arith, ints, in_box.west)) (omega (arith, ints, in_box.east)) in
    let here = pixel_of (device_point view p) in
    let there = pixel_of (device_point view place) in
    ap (λ (i : ℤ). the-pixel i here.j) column ∙ ap (λ (j : ℤ). the-pixel there.i j) (rows p.y in_box.south in_box.north)
  where
    the-pixel : ℤ → ℤ → PixelValue
    the-pixel i j = record { i = i; j = j }

pub coordinate-below : (z : ℤ) → IsCoordinate z → IsBelow (2 ^ 31) z
coordinate-below z h = record { above = omega (arith, ints, h); below = omega (arith, ints, h) }
