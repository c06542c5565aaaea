-- Where places of the world lie on the picture.
use Rattle.std.proofs.Common.{◌≡◌, ℕ, ◌*◌, List, [], ◌∷◌, map, refl, arith}
use Rattle.std.proofs.lemmas.Int.{ints}
use Rattle.std.specs.Int.{int_div_euclid}
use lib.IntN.{ℤ, pos, ◌-ℤ◌, ◌*ℤ◌}
use lib.Signed.{◌<ℤ◌, ◌≤ℤ◌}
use Rattle.geom.specs.World.{Place}
use Rattle.geom.proofs.Products.{mul-sub, product_nonneg}
use Rattle.geom.proofs.Quotients.{at_most-by_product, quotient_parts}
use Rattle.viewport.specs.View.{ViewValue, across_of, device_point, down_of, height_of, sixteenths}
use Rattle.viewport.proofs.Rising.{rising-law}
use Rattle.vertices.specs.Chain.{chain_end}

-- sixteenths go up as parts do
pub sixteenths-rising : (pixels : ℕ) (a b whole : ℤ) → pos 0 <ℤ whole → a ≤ℤ b → sixteenths pixels a whole ≤ℤ sixteenths pixels b whole
unfolding sixteenths
sixteenths-rising pixels a b whole some le =
    let times = pos (16 * pixels) in
    let one = quotient_parts (times *ℤ a) whole some in
    let other = quotient_parts (times *ℤ b) whole some in
    let more : pos 0 ≤ℤ (times *ℤ (b -ℤ a)) = product_nonneg times (b -ℤ a) (omega (arith, ints)) (omega (arith, ints)) in
    at_most-by_product (int_div_euclid (times *ℤ a) whole) (int_div_euclid (times *ℤ b) whole) whole some (omega (arith, ints, one.0, other.1, more, mul-sub times b a))

-- places further east lie no further left, and places further north no lower
pub across-rising : (view : ViewValue) (a b : ℤ) → view.area.minx <ℤ view.area.maxx → a ≤ℤ b → across_of view a ≤ℤ across_of view b
across-rising view a b some le =
    let area = view.area in
    omega (arith, ints, sixteenths-rising view.columns (a -ℤ area.minx) (b -ℤ area.minx) (area.maxx -ℤ area.minx) (omega (arith, ints)) (omega (arith, ints, le)))

pub down-falling : (view : ViewValue) (a b : ℤ) → view.area.miny <ℤ view.area.maxy → a ≤ℤ b → down_of view b ≤ℤ down_of view a
down-falling view a b some le =
    let area = view.area in
    let up = rising-law view.heights a b le in
    omega (
      arith,
      ints,
      sixteenths-rising view.rows (area.maxy -ℤ height_of view.heights b) (area.maxy -ℤ height_of view.heights a) (area.maxy -ℤ area.miny) (omega (arith, ints)) (omega (arith, ints, up)),
    )

pub end-placed : (view : ViewValue) (from : Place) (rest : List Place) → chain_end (device_point view from) (map (device_point view) rest) ≡ device_point view (chain_end from rest)
end-placed view from [] = refl
end-placed view from (to ∷ rest) = end-placed view to rest
