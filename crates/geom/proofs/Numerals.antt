-- Whole numbers that are written out are read again.
use Rattle.std.proofs.Common.{◌≡◌, ℕ, pos, ◌+◌, ◌*◌, ◌^◌, ◌<◌, ◌≤◌, Bool, true, false, Some, Ok, nat_le, nat_lt, List, [], ◌∷◌, length, take, drop, take_all, append-nil, refl, sym, ◌∙◌, ap, arith}
use Rattle.std.proofs.lemmas.Bool.{and_from, le-ltb}
use Rattle.std.proofs.lemmas.Bool.Decides.{nat_tests}
use Rattle.std.proofs.lemmas.List.{drop_all}
use Rattle.std.specs.Char.{is_ascii_digit}
use Rattle.std.specs.Fmt.{decimal}
use Rattle.std.specs.List.{list_all, list_any, position_or_len, before_first, after_first}
use Rattle.geom.specs.Decimal.{number_of, is_negative, unsigned, is_point, is_exponent_letter, are_digits, exponent_of, decimal_with, decimal_from, decimal_of, millionths_of, limited, found, reading, whole_of, nearest, signed}
use Rattle.geom.proofs.Digits.{digits-cons}
use Rattle.geom.proofs.Rounding.{nearest-is}
use Rattle.geom.proofs.Written.{numeral, no-letters, none-at_end, no-sign, digit-not}

-- digits have no point
no-points : (digits : List ℕ) → list_all is_ascii_digit digits ≡ true → list_any is_point digits ≡ false
no-points [] h = refl
no-points (d ∷ ds) h = rw (digit-not d 46 (digits-cons d ds h).0 (omega arith)) (no-points ds (digits-cons d ds h).1)

-- the decimal number of digits alone
digits-read : (digits : List ℕ) → list_all is_ascii_digit digits ≡ true → 1 ≤ length digits →
    decimal_of digits ≡ Some (record { whole = digits; decimals = []; exponent = pos 0 })
digits-read digits h some =
    let none : list_any is_exponent_letter digits ≡ false = no-letters digits h in
    let mantissa : before_first is_exponent_letter digits ≡ digits =
    ap (λ n. take n digits) (none-at_end is_exponent_letter digits none) ∙ take_all (length digits) digits (omega arith) in
    let exponent : exponent_of digits ≡ Some (pos 0) = rw none refl in
    let end : position_or_len is_point digits ≡ length digits = none-at_end is_point digits (no-points digits h) in
    let first : before_first is_point digits ≡ digits = ap (λ n. take n digits) end ∙ take_all (length digits) digits (omega arith) in
    let second : after_first is_point digits ≡ [] = ap (λ n. drop (n + 1) digits) end ∙ drop_all (length digits + 1) digits (omega arith) in
    let one : nat_lt 0 (length digits + 0) ≡ true = grind (arith, nat_tests) in
    let tested : are_digits digits [] ≡ true = and_from _ _ (and_from _ _ h refl) one in
    ap (λ (m : List ℕ). decimal_from m (exponent_of digits)) mantissa
    ∙ ap (decimal_from digits) exponent
    ∙ ap (λ (w : List ℕ). decimal_with w (after_first is_point digits) (Some (pos 0))) first
    ∙ ap (λ (ds : List ℕ). decimal_with digits ds (Some (pos 0))) second
    ∙ rw tested refl

-- digits mean a million times as many millionths
digits-millionths : (digits : List ℕ) (n : ℕ) → number_of digits ≡ n → millionths_of (record { whole = digits; decimals = []; exponent = pos 0 }) ≡ n * 1000000
digits-millionths digits n number =
    rw (append-nil digits, number) (nearest-is (1000000 * (n * 10 ^ 0)) (10 ^ (0 + 0)) (n * 1000000) (omega arith) (omega arith) (omega arith))

-- the digits of a number are read as that number
pub numeral-read : (n limit : ℕ) → n * 1000000 ≤ limit → limit < 2 ^ 63 → reading (decimal n) limit ≡ Ok (pos (n * 1000000))
numeral-read n limit within small =
    let is = numeral n (omega arith) in
    let plain = no-sign (decimal n) [] is.digits is.some in
    let negative : is_negative (decimal n) ≡ false = sym (ap is_negative (append-nil (decimal n))) ∙ plain.0 in
    let bare : unsigned (decimal n) ≡ decimal n = sym (ap unsigned (append-nil (decimal n))) ∙ plain.1 ∙ append-nil (decimal n) in
    let test : nat_le (n * 1000000) limit ≡ true = grind (arith, nat_tests) in
    ap (λ (b : Bool). found limit b (decimal_of (unsigned (decimal n)))) negative
    ∙ ap (λ (text : List ℕ). found limit false (decimal_of text)) bare
    ∙ ap (found limit false) (digits-read (decimal n) is.digits is.some)
    ∙ ap (limited limit false) (digits-millionths (decimal n) n is.number)
    ∙ rw test refl

-- and as a count
pub whole-read : (n : ℕ) → whole_of (pos (n * 1000000)) ≡ pos n
whole-read n =
    ap (λ (b : Bool). signed b (nearest (n * 1000000) 1000000)) (le-ltb (n * 1000000) 0 (omega arith))
    ∙ ap pos (nearest-is (n * 1000000) 1000000 n (omega arith) (omega arith) (omega arith))
