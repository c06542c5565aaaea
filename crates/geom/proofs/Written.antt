-- Numbers that are written out are read again.
use Rattle.std.proofs.Common.{◌≡◌, ℕ, suc, ℤ, pos, negsuc, unsigned_abs, ◌+◌, ◌*◌, ◌/◌, ◌%◌, ◌^◌, ◌<◌, ◌≤◌, ◌++◌, ◌==◌, Bool, true, false, Some, Ok, nat_le, nat_lt, List, [], ◌∷◌, length, take, drop, take_all, length-append, refl, ◌∙◌, ap, arith}
use Rattle.std.proofs.lemmas.Bool.{and_from, or_parts}
use Rattle.std.proofs.lemmas.Bool.Decides.{nat_tests}
use Rattle.std.proofs.lemmas.Fmt.{decimal_by_steps}
use Rattle.std.proofs.lemmas.Int.{ints}
use Rattle.std.proofs.lemmas.List.Folds.{list_all-append, list_any-append}
use Rattle.std.proofs.Math.Seq.{take-append_seam, drop-append-add}
use Rattle.std.specs.Char.{is_ascii_digit}
use Rattle.std.specs.Fmt.{decimal}
use Rattle.std.specs.List.{list_all, list_any, position_or_len, before_first, after_first}
use Rattle.std.specs.Result.{result_ok}
use Rattle.geom.specs.Decimal.{number_of, is_negative, unsigned, is_point, is_exponent_letter, are_digits, exponent_of, decimal_with, decimal_from, decimal_of, millionths_of, signed, limited, found, reading}
use Rattle.geom.specs.Number.{coordinate_of}
use Rattle.geom.specs.World.{IsCoordinate}
use Rattle.geom.specs.Written.{six_digits, written, written_size, WrittenIsRead}
use Rattle.geom.specs.declared.micro.TheConstants.{COORDINATE_LIMIT}
use Rattle.geom.proofs.Digits.{number_of-append, digit-range, digits-cons}
use Rattle.geom.proofs.Rounding.{nearest-is}

-- the text is the number's digits, one at least
pub record IsNumeralOf (n : ℕ) (text : List ℕ) : Type 0 where
  pub number : number_of text ≡ n
  pub digits : list_all is_ascii_digit text ≡ true
  pub some : 1 ≤ length text

-- the byte of a digit is one
one-digit : (n : ℕ) → n < 10 → is_ascii_digit (48 + n) ≡ true
one-digit n h = grind (arith, nat_tests)

-- a number below ten is its one digit
numeral-one : (n : ℕ) → n < 10 → IsNumeralOf n ((48 + n) ∷ [])
numeral-one n h = record { number = omega arith; digits = and_from _ true (one-digit n h) refl; some = omega arith }

-- a number and its last digit
numeral-more : (n : ℕ) (ds : List ℕ) → 10 ≤ n → IsNumeralOf (n / 10) ds → IsNumeralOf n (ds ++ ((48 + n % 10) ∷ []))
numeral-more n ds h is = record {
  number = number_of-append ds ((48 + n % 10) ∷ []) ∙ omega (arith, is.number);
  digits = list_all-append is_ascii_digit ds ((48 + n % 10) ∷ []) ∙ and_from _ _ is.digits (and_from _ true (one-digit (n % 10) (omega arith)) refl);
  some = omega (arith, length-append ds ((48 + n % 10) ∷ []), is.some);
}

-- a number is its decimal digits
pub numeral : (n : ℕ) → n < 2 ^ 64 → IsNumeralOf n (decimal n)
numeral n h = decimal_by_steps IsNumeralOf numeral-one numeral-more n h

-- six digits are the number's last ones
six-number : (n : ℕ) → number_of (six_digits n) ≡ n % 1000000
six-number n = omega arith

-- and are digits
pub six-are : (n : ℕ) → list_all is_ascii_digit (six_digits n) ≡ true
six-are n =
    and_from _ _ (one-digit (n / 100000 % 10) (omega arith)) (and_from _ _ (one-digit (n / 10000 % 10) (omega arith))
    (and_from _ _ (one-digit (n / 1000 % 10) (omega arith)) (and_from _ _ (one-digit (n / 100 % 10) (omega arith))
    (and_from _ _ (one-digit (n / 10 % 10) (omega arith)) (and_from _ true (one-digit (n % 10) (omega arith)) refl)))))

-- a digit is no point and no sign
pub digit-not : (d b : ℕ) → is_ascii_digit d ≡ true → b < 48 → (d == b) ≡ false
digit-not d b h low = let range = digit-range d h in grind (arith, nat_tests)

-- nor a letter of an exponent
digit-no_letter : (d : ℕ) → is_ascii_digit d ≡ true → is_exponent_letter d ≡ false
digit-no_letter d h = let range = digit-range d h in grind (arith, nat_tests)

-- nor is any of many digits
pub no-letters : (digits : List ℕ) → list_all is_ascii_digit digits ≡ true → list_any is_exponent_letter digits ≡ false
no-letters [] h = refl
no-letters (d ∷ ds) h = rw (digit-no_letter d (digits-cons d ds h).0) (no-letters ds (digits-cons d ds h).1)

-- where no byte is of a kind, the first one would be at the end
pub none-at_end : (p : ℕ → Bool) (text : List ℕ) → list_any p text ≡ false → position_or_len p text ≡ length text
none-at_end p [] h = refl
none-at_end p (b ∷ bs) h =
    let parts = or_parts (p b) (list_any p bs) h in
    rw parts.0 (omega (arith, none-at_end p bs parts.1))

-- the first point comes after the whole digits
point-after : (whole rest : List ℕ) → list_all is_ascii_digit whole ≡ true → position_or_len is_point (whole ++ 46 ∷ rest) ≡ length whole
point-after [] rest h = refl
point-after (d ∷ ds) rest h = rw (digit-not d 46 (digits-cons d ds h).0 (omega arith)) (omega (arith, point-after ds rest (digits-cons d ds h).1))

-- the decimal number of digits, a point and digits
pub parts-read : (whole decimals : List ℕ) → list_all is_ascii_digit whole ≡ true → list_all is_ascii_digit decimals ≡ true → 1 ≤ length whole →
    decimal_of (whole ++ 46 ∷ decimals) ≡ Some (record { whole = whole; decimals = decimals; exponent = pos 0 })
parts-read whole decimals front back some =
    let text : List ℕ = whole ++ 46 ∷ decimals in
    let none : list_any is_exponent_letter text ≡ false =
    list_any-append is_exponent_letter whole (46 ∷ decimals) ∙ rw (no-letters whole front, no-letters decimals back) refl in
    let mantissa : before_first is_exponent_letter text ≡ text =
    ap (λ n. take n text) (none-at_end is_exponent_letter text none)
    ∙ take_all (length text) text (omega arith) in
    let exponent : exponent_of text ≡ Some (pos 0) = rw none refl in
    let first : before_first is_point text ≡ whole =
    ap (λ n. take n text) (point-after whole decimals front) ∙ take-append_seam whole (46 ∷ decimals) in
    let second : after_first is_point text ≡ decimals =
    ap (λ n. drop (n + 1) text) (point-after whole decimals front) ∙ drop-append-add whole (46 ∷ decimals) 1 in
    let one : nat_lt 0 (length whole + length decimals) ≡ true = grind (arith, nat_tests) in
    let digits : are_digits whole decimals ≡ true = and_from _ _ (and_from _ _ front back) one in
    ap (λ (m : List ℕ). decimal_from m (exponent_of text)) mantissa
    ∙ ap (decimal_from text) exponent
    ∙ ap (λ (w : List ℕ). decimal_with w (after_first is_point text) (Some (pos 0))) first
    ∙ ap (λ (ds : List ℕ). decimal_with whole ds (Some (pos 0))) second
    ∙ rw digits refl

-- a text that begins with a digit has no sign
pub no-sign : (digits rest : List ℕ) → list_all is_ascii_digit digits ≡ true → 1 ≤ length digits →
    (is_negative (digits ++ rest) ≡ false) × (unsigned (digits ++ rest) ≡ digits ++ rest)
no-sign [] rest h some = absurd (omega arith)
no-sign (d ∷ ds) rest h some = rw (digit-not d 45 (digits-cons d ds h).0 (omega arith), digit-not d 43 (digits-cons d ds h).0 (omega arith)) (refl, refl)

-- six digits after the point make the number of millionths of all digits
pub six-millionths : (whole decimals : List ℕ) (n : ℕ) → length decimals ≡ 6 → number_of (whole ++ decimals) ≡ n →
    millionths_of (record { whole = whole; decimals = decimals; exponent = pos 0 }) ≡ n
six-millionths whole decimals n six number =
    rw (number, six) (nearest-is (1000000 * (n * 10 ^ 0)) (10 ^ (6 + 0)) n (omega arith) (omega arith) (omega arith))

-- a size that is written out is read as that size
size-read : (negative : Bool) (n limit : ℕ) → n ≤ limit → limit < 2 ^ 63 →
    found limit negative (decimal_of (written_size n)) ≡ Ok (signed negative n)
size-read negative n limit within small =
    let whole = numeral (n / 1000000) (omega arith) in
    let number : number_of (decimal (n / 1000000) ++ six_digits n) ≡ n =
    number_of-append (decimal (n / 1000000)) (six_digits n) ∙ omega (arith, whole.number, six-number n) in
    let test : nat_le n limit ≡ true = grind (arith, nat_tests) in
    ap (found limit negative) (parts-read (decimal (n / 1000000)) (six_digits n) whole.digits (six-are n) whole.some)
    ∙ ap (limited limit negative) (six-millionths (decimal (n / 1000000)) (six_digits n) n refl number)
    ∙ rw test refl

-- a size without a sign
plain-read : (n limit : ℕ) → n ≤ limit → limit < 2 ^ 63 → reading (written_size n) limit ≡ Ok (pos n)
plain-read n limit within small =
    let whole = numeral (n / 1000000) (omega arith) in
    let plain = no-sign (decimal (n / 1000000)) (46 ∷ six_digits n) whole.digits whole.some in
    ap (λ (b : Bool). found limit b (decimal_of (unsigned (written_size n)))) plain.0
    ∙ ap (λ (text : List ℕ). found limit false (decimal_of text)) plain.1
    ∙ size-read false n limit within small

-- a number that is written out is read as that number
pub written-law : WrittenIsRead
written-law (pos n) limit h small = plain-read n limit h small
written-law (negsuc n) limit h small = size-read true (suc n) limit h small

-- a coordinate's size is within the limit
pub coordinate-size : (z : ℤ) → IsCoordinate z → unsigned_abs z ≤ COORDINATE_LIMIT
coordinate-size (pos n) is = omega (arith, ints, is.least, is.most)
coordinate-size (negsuc n) is = omega (arith, ints, is.least, is.most)

-- a coordinate that is written out is that coordinate
pub coordinate-written : (z : ℤ) → IsCoordinate z → coordinate_of (written z) ≡ Some z
coordinate-written z is = ap result_ok (written-law z COORDINATE_LIMIT (coordinate-size z is) (omega arith))
