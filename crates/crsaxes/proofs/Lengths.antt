-- Metres that are rounded from degrees, and read as degrees again.
use Rattle.std.proofs.Common.{◌≡◌, ◌∙◌, ℕ, ◌+◌, ◌*◌, ◌<◌, ◌≤◌, ◌^◌, false, suc, [], ◌∷◌, refl, sym, ap, arith, Some, Ok}
use Rattle.std.proofs.lemmas.Int.{ints}
use Rattle.std.specs.Option.{option_map}
use Rattle.std.specs.Prelude.{int_lt, unsigned_abs}
use Rattle.std.specs.Result.{result_ok}
use lib.IntN.{ℤ, pos, negsuc, neg_ℤ, ◌+ℤ◌, ◌-ℤ◌, ◌*ℤ◌}
use lib.Signed.{◌<ℤ◌}
use Rattle.geom.specs.Decimal.{nearest, reading}
use Rattle.geom.specs.World.{IsCoordinate}
use Rattle.geom.specs.Written.{written}
use Rattle.geom.proofs.Quotients.{quotient_parts}
use Rattle.geom.proofs.Rounding.{nearest-is}
use Rattle.geom.proofs.Written.{written-law}
use Rattle.crsaxes.specs.Axes.{axis_of, box_in, box_of, box_of_parts, equator_of, with_area}
use Rattle.crsaxes.specs.declared.metres.TheConstants.{METRE_LIMIT}
use Rattle.crsaxes.specs.declared.crs.Crs.TheVariants.{Epsg3857}
use Rattle.crsaxes.specs.Metres.{IsRoundedDown, IsRoundedUp, MetresAreRead, MetresAreRounded, metres_down, metres_up}

pub down-law : (degrees : ℤ) → IsRoundedDown degrees (metres_down degrees)
unfolding metres_down
down-law z =
    let parts = quotient_parts (z *ℤ pos 5009377085697311) (pos 45000000000) (omega (arith, ints)) in
    record { most = parts.0; next = omega (arith, ints, parts.1) }

pub up-law : (degrees : ℤ) → IsRoundedUp degrees (metres_up degrees)
up-law z =
    let is = down-law (neg_ℤ z) in
    record { least = omega (arith, ints, is.next, is.most); before = omega (arith, ints, is.most, is.next) }

pub rounded-law : MetresAreRounded
rounded-law z = record { down = down-law z; up = up-law z }

-- metres within a millionth of a metre of a coordinate are within the limit, and count as that coordinate
record IsClose (degrees metres : ℤ) : Type 0 where
  pub above : (degrees *ℤ pos 5009377085697311 -ℤ pos 45000000000) <ℤ (metres *ℤ pos 45000000000)
  pub below : (metres *ℤ pos 45000000000) <ℤ (degrees *ℤ pos 5009377085697311 +ℤ pos 45000000000)

close-down : (degrees : ℤ) → IsClose degrees (metres_down degrees)
close-down z = let is = down-law z in record { above = omega (arith, ints, is.next); below = omega (arith, ints, is.most) }

close-up : (degrees : ℤ) → IsClose degrees (metres_up degrees)
close-up z = let is = up-law z in record { above = omega (arith, ints, is.least); below = omega (arith, ints, is.before) }

-- the nearest degrees of a size
near : (n m : ℕ) → n * 5009377085697311 < m * 45000000000 + 45000000000 → m * 45000000000 < n * 5009377085697311 + 45000000000 →
    nearest (45000000000 * m) 5009377085697311 ≡ n
near n m low high = nearest-is (45000000000 * m) 5009377085697311 n (omega arith) (omega (arith, low)) (omega (arith, high))

equator-is : (degrees metres : ℤ) → IsClose degrees metres → equator_of metres ≡ degrees
equator-is (pos n) (pos m) is =
    let north : int_lt (pos m) (pos 0) ≡ false = sym (omega (arith, ints)) in
    rw (north, near n m (omega (arith, ints, is.above)) (omega (arith, ints, is.below))) refl
equator-is (pos n) (negsuc m) is = absurd (omega (arith, ints, is.above, is.below))
equator-is (negsuc n) (pos m) is = absurd (omega (arith, ints, is.above, is.below))
equator-is (negsuc n) (negsuc m) is = rw (near (suc n) (suc m) (omega (arith, ints, is.below)) (omega (arith, ints, is.above))) refl

size-within : (degrees metres : ℤ) → IsCoordinate degrees → IsClose degrees metres → unsigned_abs metres ≤ METRE_LIMIT
size-within z (pos m) h is = omega (arith, ints, h.least, h.most, is.below)
size-within z (negsuc m) h is = omega (arith, ints, h.least, h.most, is.above)

-- so they are read as they are written, and as it
close-written : (degrees metres : ℤ) → IsCoordinate degrees → IsClose degrees metres → reading (written metres) METRE_LIMIT ≡ Ok metres
close-written z m h is = written-law m METRE_LIMIT (size-within z m h is) (omega arith)

pub down-written : (degrees : ℤ) → IsCoordinate degrees → reading (written (metres_down degrees)) METRE_LIMIT ≡ Ok (metres_down degrees)
down-written z h = close-written z (metres_down z) h (close-down z)

pub up-written : (degrees : ℤ) → IsCoordinate degrees → reading (written (metres_up degrees)) METRE_LIMIT ≡ Ok (metres_up degrees)
up-written z h = close-written z (metres_up z) h (close-up z)

close-read : (degrees metres : ℤ) → IsCoordinate degrees → IsClose degrees metres → axis_of Epsg3857 (written metres) ≡ Some degrees
close-read z m h is = ap (λ r. option_map equator_of (result_ok r)) (close-written z m h is) ∙ ap Some (equator-is z m is)

-- the sizes of metres that are written
close-below : (degrees metres : ℤ) → IsCoordinate degrees → IsClose degrees metres → unsigned_abs metres < 2 ^ 64
close-below z m h is = omega (arith, size-within z m h is)

pub down-below : (degrees : ℤ) → IsCoordinate degrees → unsigned_abs (metres_down degrees) < 2 ^ 64
down-below z h = close-below z (metres_down z) h (close-down z)

pub up-below : (degrees : ℤ) → IsCoordinate degrees → unsigned_abs (metres_up degrees) < 2 ^ 64
up-below z h = close-below z (metres_up z) h (close-up z)

pub read-law : MetresAreRead
read-law z h = record { down = close-read z (metres_down z) h (close-down z); up = close-read z (metres_up z) h (close-up z) }

-- four coordinates in metres, rounded outwards, are the box of them
pub metres-read : (a b c d : ℤ) → IsCoordinate a → IsCoordinate b → IsCoordinate c → IsCoordinate d →
    box_of_parts Epsg3857 (written (metres_down a) ∷ written (metres_down b) ∷ written (metres_up c) ∷ written (metres_up d) ∷ []) ≡ with_area (box_in Epsg3857 a b c d)
metres-read a b c d ha hb hc hd =
    let axis = axis_of Epsg3857 in
    ap (λ x. box_of Epsg3857 x (axis (written (metres_down b))) (axis (written (metres_up c))) (axis (written (metres_up d)))) (read-law a ha).down
    ∙ ap (λ x. box_of Epsg3857 (Some a) x (axis (written (metres_up c))) (axis (written (metres_up d)))) (read-law b hb).down
    ∙ ap (λ x. box_of Epsg3857 (Some a) (Some b) x (axis (written (metres_up d)))) (read-law c hc).up
    ∙ ap (λ x. box_of Epsg3857 (Some a) (Some b) (Some c) x) (read-law d hd).up
