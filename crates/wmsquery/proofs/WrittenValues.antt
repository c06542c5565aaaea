-- Values that are written out are read back.
use Rattle.std.proofs.Common.{◌==◌, ◌≤◌, min, nat_lt, ok_or, ◌≡◌, ◌≢◌, ℕ, ◌^◌, ◌<◌, ◌&&◌, true, false, nat_le, List, [], ◌∷◌, All, Some, None, Ok, ap, refl, ◌∙◌, arith, cond}
use Rattle.std.proofs.lemmas.Bool.{and_from, le-leb, lt-ltb, ne_eqb}
use Rattle.std.proofs.lemmas.List.Elements.{All-head, All-tail, All-weaker}
use Rattle.std.proofs.lemmas.List.Splits.{slice_split_none, slice_split_at}
use Rattle.std.specs.Fmt.{decimal}
use Rattle.std.specs.List.{slice_split, join_with_byte}
use Rattle.std.specs.Option.{option_and_then}
use Rattle.geom.specs.Decimal.{number_of}
use Rattle.geom.specs.Side.{IsPictureSide, picture_side}
use Rattle.geom.proofs.Written.{numeral}
use Rattle.crsaxes.specs.Axes.{is_comma}
use Rattle.geom.specs.Natural.{number_in}
use Rattle.wmsquery.specs.Values.{side_of, count_within, feature_count_of, index_below, pixel_of}
use Rattle.wmsquery.specs.declared.fault.Code.TheVariants as code

-- a side that a picture may have
side-within : (n : ℕ) → IsPictureSide n → picture_side n ≡ Some n
side-within n is =
    let tests : (nat_le 1 n && nat_le n 2048) ≡ true = and_from _ _ (le-leb 1 n is.some) (le-leb n 2048 is.most) in
    rw tests refl

-- the digits of a number are that number
pub number-written : (n : ℕ) → n < 2 ^ 64 → number_in (decimal n) ≡ Some n
number-written n small =
    let is = numeral n small in
    ap (λ b. cond b (Some (number_of (decimal n))) None) is.digits ∙ ap Some is.number

-- a side's digits mean that side
pub side-written : (n : ℕ) → IsPictureSide n → side_of (Some (decimal n)) ≡ Ok n
side-written n is =
    ap (λ c. ok_or (option_and_then picture_side c) code.InvalidParameterValue) (number-written n (omega (arith, is.most)))
    ∙ ap (λ side. ok_or side code.InvalidParameterValue) (side-within n is)

-- the digits of a count that a layer may have mean that count
pub count-written : (n : ℕ) → 1 ≤ n → n ≤ 200000 → feature_count_of (Some (decimal n)) ≡ Ok n
count-written n some most =
    let counted : (n == 0) ≡ false = ne_eqb n 0 (λ e. omega (arith, e, some)) in
    let least : min n 200000 ≡ n = omega (arith, most) in
    ap (λ c. ok_or (option_and_then count_within c) code.InvalidParameterValue) (number-written n (omega (arith, most)))
    ∙ rw (counted, least) refl

-- the digits of a pixel's index mean that pixel
pub pixel-written : (side n : ℕ) → side ≤ 2048 → n < side → pixel_of side (Some (decimal n)) ≡ Ok n
pixel-written side n few within =
    let test : nat_lt n side ≡ true = lt-ltb n side within in
    ap (λ c. ok_or (option_and_then (index_below side) c) code.InvalidPoint) (number-written n (omega (arith, few, within)))
    ∙ rw test refl

-- bytes that are no commas
commas-none : (text : List ℕ) → All (λ b. b ≢ 44) text → All (λ b. is_comma b ≡ false) text
commas-none text h = All-weaker (λ b. b ≢ 44) (λ b. is_comma b ≡ false) (λ b ne. ne_eqb b 44 ne) text h

-- texts without commas are the parts between the commas
pub split-joined : (text : List ℕ) (texts : List (List ℕ)) → All (λ b. b ≢ 44) text → All (All (λ b. b ≢ 44)) texts →
    slice_split is_comma (join_with_byte 44 (text ∷ texts)) ≡ text ∷ texts
split-joined text [] one others = slice_split_none is_comma text (commas-none text one)
split-joined text (next ∷ texts) one others =
    slice_split_at is_comma text 44 (join_with_byte 44 (next ∷ texts)) (commas-none text one) refl
    ∙ ap (λ ts. text ∷ ts) (split-joined next texts (All-head (All (λ b. b ≢ 44)) next texts others) (All-tail (All (λ b. b ≢ 44)) next texts others))
