-- Boxes and colours that are written out are read back.
use Rattle.std.proofs.Common.{ok_or, ◌≡◌, ◌≢◌, ℕ, zero, suc, ℤ, pos, negsuc, unsigned_abs, ◌/◌, ◌^◌, ◌<◌, ◌<ℤ◌, ◌&&◌, true, int_lt, List, [], ◌∷◌, All, Some, Ok, ap, refl, ◌∙◌, arith}
use Rattle.std.proofs.lemmas.Bool.{and_from, lt-ltb}
use Rattle.std.proofs.lemmas.List.Elements.{All-nil, All-cons, All-append, All-weaker}
use Rattle.std.proofs.lemmas.Int.{ints}
use Rattle.std.specs.Char.{is_ascii_digit}
use Rattle.std.specs.Fmt.{decimal}
use Rattle.std.specs.List.{list_all}
use Rattle.std.specs.Option.{option_and_then}
use Rattle.std.specs.Result.{result_ok}
use Rattle.hex.specs.Hex.{encode_lower, decode_sized, IsBytes}
use Rattle.hex.proofs.HexLemmas.{decode_of-encode_lower, decode_sized-twice, length-encode_with}
use Rattle.geom.specs.Number.{coordinate_of}
use Rattle.geom.specs.World.{Area, IsCoordinate, IsExtent}
use Rattle.geom.specs.Written.{written, written_size, six_digits}
use Rattle.geom.proofs.Written.{numeral, six-are, coordinate-size, coordinate-written}
use Rattle.geom.proofs.Digits.{digit-range, digits-cons}
use Rattle.crsaxes.specs.Axes.{axis_of, parts, box_of, box_of_parts, box_in, with_area}
use Rattle.crsaxes.specs.Metres.{metres_down, metres_up}
use Rattle.crsaxes.proofs.Areas.{four-read, extent-area}
use Rattle.crsaxes.proofs.Lengths.{down-below, metres-read, up-below}
use Rattle.crsaxes.specs.declared.crs.Crs.{Crs}
use Rattle.crsaxes.specs.declared.crs.Crs.TheVariants.{Crs84, Epsg3857, Epsg4326}
use Rattle.mapdefs.specs.declared.colour.Rgb.{Rgb}
use Rattle.mapdefs.specs.Colour.{rgb_of_bytes}
use Rattle.wmsquery.specs.Values.{area_of, background_of}
use Rattle.wmsquery.specs.declared.fault.Code.TheVariants as code
use Rattle.wmsquery.specs.Written.{bbox_text, colour_text, IsColour, with_commas}
use Rattle.wmsquery.proofs.WrittenValues.{split-joined}

-- three bytes are bytes
three-bytes : (colour : Rgb) → IsColour colour → IsBytes (colour.red ∷ colour.green ∷ colour.blue ∷ [])
three-bytes colour is zero = is.red
three-bytes colour is (suc zero) = is.green
three-bytes colour is (suc (suc zero)) = is.blue
three-bytes colour is (suc (suc (suc i))) = omega arith

-- the digits of a colour mean that colour
pub colour-written : (colour : Rgb) → IsColour colour → background_of (Some (colour_text colour)) ≡ Ok colour
colour-written colour is =
    let bytes = colour.red ∷ colour.green ∷ colour.blue ∷ [] in
    let decoded : decode_sized (encode_lower bytes) 3 ≡ Ok bytes =
    decode_sized-twice (encode_lower bytes) 3 (length-encode_with _ bytes) ∙ decode_of-encode_lower bytes (three-bytes colour is) in
    ap (λ d. ok_or (option_and_then rgb_of_bytes (result_ok d)) code.InvalidParameterValue) decoded

-- a byte of a number: ASCII, and no comma
pub record IsNumberByte (b : ℕ) : Type 0 where
  pub ascii : b < 128
  pub no_comma : b ≢ 44

-- digits are such bytes
pub digits-plain : (digits : List ℕ) → list_all is_ascii_digit digits ≡ true → All IsNumberByte digits
digits-plain [] h = All-nil IsNumberByte
digits-plain (d ∷ ds) h =
    let range = digit-range d (digits-cons d ds h).0 in
    All-cons IsNumberByte d ds (record { ascii = omega (arith, range); no_comma = λ e. omega (arith, range, e) }) (digits-plain ds (digits-cons d ds h).1)

-- and so are those that a number is written with
size-plain : (n : ℕ) → n < 2 ^ 64 → All IsNumberByte (written_size n)
size-plain n small =
    All-append IsNumberByte (decimal (n / 1000000)) (46 ∷ six_digits n) (digits-plain _ (numeral (n / 1000000) (omega arith)).digits)
    (All-cons IsNumberByte 46 (six_digits n) (record { ascii = omega arith; no_comma = λ e. omega (arith, e) }) (digits-plain (six_digits n) (six-are n)))

pub number-plain : (z : ℤ) → unsigned_abs z < 2 ^ 64 → All IsNumberByte (written z)
number-plain (pos n) small = size-plain n small
number-plain (negsuc n) small =
    All-cons IsNumberByte 45 (written_size (suc n)) (record { ascii = omega arith; no_comma = λ e. omega (arith, e) }) (size-plain (suc n) small)

pub written-plain : (z : ℤ) → IsCoordinate z → All IsNumberByte (written z)
written-plain z is = number-plain z (omega (arith, coordinate-size z is))

-- and so are those of metres
pub down-plain : (z : ℤ) → IsCoordinate z → All IsNumberByte (written (metres_down z))
down-plain z is = number-plain (metres_down z) (down-below z is)

pub up-plain : (z : ℤ) → IsCoordinate z → All IsNumberByte (written (metres_up z))
up-plain z is = number-plain (metres_up z) (up-below z is)

-- four numbers between commas are four parts
four-parts : (a b c d : List ℕ) → All IsNumberByte a → All IsNumberByte b → All IsNumberByte c → All IsNumberByte d →
    parts (with_commas (a ∷ b ∷ c ∷ d ∷ [])) ≡ a ∷ b ∷ c ∷ d ∷ []
four-parts a b c d ha hb hc hd =
    let Plain = All (λ (b : ℕ). b ≢ 44) in
    split-joined a (b ∷ c ∷ d ∷ []) (commas a ha) (All-cons Plain b (c ∷ d ∷ []) (commas b hb) (All-cons Plain c (d ∷ []) (commas c hc) (All-cons Plain d [] (commas d hd) (All-nil Plain))))
  where
    commas : (text : List ℕ) → All IsNumberByte text → All (λ b. b ≢ 44) text
    commas text h = All-weaker IsNumberByte (λ b. b ≢ 44) (λ b n. n.no_comma) text h

-- four coordinates make the box with these sides
four-box : (crs : Crs) (a b c d : ℤ) → ((text : List ℕ) → axis_of crs text ≡ coordinate_of text) → IsCoordinate a → IsCoordinate b → IsCoordinate c → IsCoordinate d →
    box_of_parts crs (parts (with_commas (written a ∷ written b ∷ written c ∷ written d ∷ []))) ≡ with_area (box_in crs a b c d)
four-box crs a b c d degrees ha hb hc hd =
    ap (box_of_parts crs) (four-parts (written a) (written b) (written c) (written d) (written-plain a ha) (written-plain b hb) (written-plain c hc) (written-plain d hd))
    ∙ four-read crs a b c d degrees ha hb hc hd

-- so they do in metres
metres-box : (a b c d : ℤ) → IsCoordinate a → IsCoordinate b → IsCoordinate c → IsCoordinate d →
    box_of_parts Epsg3857 (parts (with_commas (written (metres_down a) ∷ written (metres_down b) ∷ written (metres_up c) ∷ written (metres_up d) ∷ [])))
    ≡ with_area (box_in Epsg3857 a b c d)
metres-box a b c d ha hb hc hd =
    ap (box_of_parts Epsg3857)
    (four-parts (written (metres_down a)) (written (metres_down b)) (written (metres_up c)) (written (metres_up d)) (down-plain a ha) (down-plain b hb) (up-plain c hc) (up-plain d hd))
    ∙ metres-read a b c d ha hb hc hd

-- the sides of a box in the axis order of a system mean that box
pub area-written : (crs : Crs) (area : Area) → IsExtent area → area_of crs (Some (bbox_text crs area)) ≡ Ok area
area-written Epsg3857 area is =
    ap (λ r. ok_or (result_ok r) code.InvalidParameterValue)
    (metres-box area.minx area.miny area.maxx area.maxy is.world.west is.world.south is.world.east is.world.north ∙ extent-area area is)
area-written Crs84 area is =
    ap (λ r. ok_or (result_ok r) code.InvalidParameterValue)
    (four-box Crs84 area.minx area.miny area.maxx area.maxy (λ text. refl) is.world.west is.world.south is.world.east is.world.north ∙ extent-area area is)
area-written Epsg4326 area is =
    ap (λ r. ok_or (result_ok r) code.InvalidParameterValue)
    (four-box Epsg4326 area.miny area.minx area.maxy area.maxx (λ text. refl) is.world.south is.world.west is.world.north is.world.east ∙ extent-area area is)
