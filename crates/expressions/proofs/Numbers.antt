-- The bytes of literal numbers.
use Rattle.std.proofs.Common.{◌≡◌, ℕ, suc, ◌+◌, ◌<◌, ◌==◌, ◌||◌, ◌&&◌, nat_lt, Bool, true, false, not, if◌then◌else◌, ℤ, pos, List, [], ◌∷◌, length, take, drop, Option, Some, None, Ok, refl, arith}
use Rattle.std.proofs.lemmas.Bool.{and_parts, and_from}
use Rattle.std.proofs.lemmas.Bool.Decides.{nat_tests}
use Rattle.std.proofs.lemmas.Str.{IsUtf8-from_is_utf8, is_utf8-from_IsUtf8, IsUtf8-from_ascii}
use Rattle.std.proofs.lemmas.Str.Ascii.{IsAscii-nil, IsAscii-cons}
use Rattle.std.specs.Char.{is_ascii_digit, to_ascii_lowercase}
use Rattle.std.specs.List.{list_all, list_any, position_or_len, before_first, after_first}
use Rattle.std.specs.Str.{IsUtf8, IsAscii, is_utf8}
use Rattle.geom.specs.Decimal.{Decimal, is_negative, unsigned, is_point, is_exponent_letter, are_digits, number_of, signed as to_sign, whole_number, exponent_of, decimal_from, decimal_of, found, reading}

-- what is no UTF-8 doesn't pass the test
pub not-utf8 : (bytes : List ℕ) → (IsUtf8 bytes → ⊥) → is_utf8 bytes ≡ false
not-utf8 bytes h = by (is_utf8 bytes) refl
  where
    by : (b : Bool) → is_utf8 bytes ≡ b → b ≡ false
    by true e = absurd (h (IsUtf8-from_is_utf8 bytes e))
    by false e = refl

-- a byte that numbers have: a digit, a point, a sign or the letter of an exponent
abbrev pub is_numeric : ℕ → Bool
is_numeric b = is_ascii_digit b || b == 46 || b == 43 || b == 45 || to_ascii_lowercase b == 101

pub numeric-digit : (b : ℕ) → is_ascii_digit b ≡ true → is_numeric b ≡ true
numeric-digit b h = grind (arith, nat_tests)

numeric-point : (b : ℕ) → is_point b ≡ true → is_numeric b ≡ true
numeric-point b h = grind (arith, nat_tests)

numeric-letter : (b : ℕ) → is_exponent_letter b ≡ true → is_numeric b ≡ true
numeric-letter b h = grind (arith, nat_tests)

all-digits : (bs : List ℕ) → list_all is_ascii_digit bs ≡ true → list_all is_numeric bs ≡ true
all-digits [] h = refl
all-digits (b ∷ bs) h = let p = and_parts (is_ascii_digit b) (list_all is_ascii_digit bs) h in and_from _ _ (numeric-digit b p.0) (all-digits bs p.1)

-- the bytes on both sides of a byte that a number may have, and that byte
around : (p : ℕ → Bool) (bs : List ℕ) → ((b : ℕ) → p b ≡ true → is_numeric b ≡ true) →
    list_all is_numeric (before_first p bs) ≡ true → list_all is_numeric (after_first p bs) ≡ true → list_all is_numeric bs ≡ true
around p [] h front back = refl
around p (b ∷ bs) h front back = by (around p bs h) (p b) refl front back
  where
    by : (list_all is_numeric (before_first p bs) ≡ true → list_all is_numeric (after_first p bs) ≡ true → list_all is_numeric bs ≡ true) →
        (t : Bool) → p b ≡ t →
        list_all is_numeric (take (if not t then 1 + position_or_len p bs else 0) (b ∷ bs)) ≡ true →
        list_all is_numeric (drop ((if not t then 1 + position_or_len p bs else 0) + 1) (b ∷ bs)) ≡ true → list_all is_numeric (b ∷ bs) ≡ true
    by goes_on true e first others = and_from _ _ (h b e) others
    by goes_on false e first others =
        let one : 1 + position_or_len p bs ≡ suc (position_or_len p bs) = omega arith in
        let two : 1 + position_or_len p bs + 1 ≡ suc (position_or_len p bs + 1) = omega arith in
        let parts = and_parts (is_numeric b) (list_all is_numeric (before_first p bs)) (rw one at first) in
        and_from _ _ parts.0 (goes_on parts.1 (rw two at others))

-- the bytes before and after a sign
signed : (bs : List ℕ) → list_all is_numeric (unsigned bs) ≡ true → list_all is_numeric bs ≡ true
signed [] h = refl
signed (b ∷ bs) h = by (b == 45 || b == 43) refl h
  where
    by : (t : Bool) → (b == 45 || b == 43) ≡ t → list_all is_numeric (if t then bs else b ∷ bs) ≡ true → list_all is_numeric (b ∷ bs) ≡ true
    by true e rest = and_from _ _ (let one : is_numeric b ≡ true = grind (arith, nat_tests) in one) rest
    by false e rest = rest

-- nothing comes after a byte that is missing
nothing-after : (p : ℕ → Bool) (bs : List ℕ) → list_any p bs ≡ false → after_first p bs ≡ []
nothing-after p [] h = refl
nothing-after p (b ∷ bs) h = by (nothing-after p bs) (p b) refl h
  where
    by : (list_any p bs ≡ false → after_first p bs ≡ []) → (t : Bool) → p b ≡ t → (t || list_any p bs) ≡ false → drop ((if not t then 1 + position_or_len p bs else 0) + 1) (b ∷ bs) ≡ []
    by goes_on true e k = cc
    by goes_on false e k =
        let two : 1 + position_or_len p bs + 1 ≡ suc (position_or_len p bs + 1) = omega arith in
        rw two (goes_on k)

-- a whole number's
whole-all : (bs : List ℕ) (z : ℤ) → whole_number bs ≡ Some z → list_all is_numeric bs ≡ true
whole-all bs z h = by (nat_lt 0 (length (unsigned bs))) (list_all is_ascii_digit (unsigned bs)) refl h
  where
    by : (some digits : Bool) → list_all is_ascii_digit (unsigned bs) ≡ digits →
        (if some && digits then Some (to_sign (is_negative bs) (number_of (unsigned bs))) else None) ≡ Some z → list_all is_numeric bs ≡ true
    by false digits e k = cc
    by true false e k = cc
    by true true e k = signed bs (all-digits (unsigned bs) e)

exponent-all : (bs : List ℕ) (z : ℤ) → exponent_of bs ≡ Some z → list_all is_numeric (after_first is_exponent_letter bs) ≡ true
exponent-all bs z h = by (list_any is_exponent_letter bs) refl h
  where
    by : (t : Bool) → list_any is_exponent_letter bs ≡ t → (if t then whole_number (after_first is_exponent_letter bs) else Some (pos 0)) ≡ Some z →
        list_all is_numeric (after_first is_exponent_letter bs) ≡ true
    by true e k = whole-all (after_first is_exponent_letter bs) z k
    by false e k = rw (nothing-after is_exponent_letter bs e) refl

-- a decimal number's, without its sign
mantissa-all : (bs : List ℕ) → are_digits (before_first is_point bs) (after_first is_point bs) ≡ true → list_all is_numeric bs ≡ true
mantissa-all bs h =
    let p = and_parts _ _ h in
    let q = and_parts (list_all is_ascii_digit (before_first is_point bs)) (list_all is_ascii_digit (after_first is_point bs)) p.0 in
    around is_point bs numeric-point (all-digits (before_first is_point bs) q.0) (all-digits (after_first is_point bs) q.1)

decimal-all : (bs : List ℕ) (d : Decimal) → decimal_of bs ≡ Some d → list_all is_numeric bs ≡ true
decimal-all bs d h = by (exponent_of bs) refl h
  where
    by : (x : Option ℤ) → exponent_of bs ≡ x → decimal_from (before_first is_exponent_letter bs) x ≡ Some d → list_all is_numeric bs ≡ true
    by None e k = cc
    by (Some z) e k = digits (are_digits (before_first is_point (before_first is_exponent_letter bs)) (after_first is_point (before_first is_exponent_letter bs))) refl k
      where
        digits : (t : Bool) → are_digits (before_first is_point (before_first is_exponent_letter bs)) (after_first is_point (before_first is_exponent_letter bs)) ≡ t →
            (if t then Some (record { whole = before_first is_point (before_first is_exponent_letter bs); decimals = after_first is_point (before_first is_exponent_letter bs); exponent = z }) else None) ≡ Some d →
            list_all is_numeric bs ≡ true
        digits false f l = cc
        digits true f l = around is_exponent_letter bs numeric-letter (mantissa-all (before_first is_exponent_letter bs) f) (exponent-all bs z e)

-- a text that is read as a number has no other bytes
pub reading-all : (bs : List ℕ) (limit : ℕ) (z : ℤ) → reading bs limit ≡ Ok z → list_all is_numeric bs ≡ true
reading-all bs limit z h = by (decimal_of (unsigned bs)) refl h
  where
    by : (x : Option Decimal) → decimal_of (unsigned bs) ≡ x → found limit (is_negative bs) x ≡ Ok z → list_all is_numeric bs ≡ true
    by None e k = cc
    by (Some d) e k = signed bs (decimal-all (unsigned bs) d e)

numeric-low : (b : ℕ) → is_numeric b ≡ true → b < 128
numeric-low b h = grind (arith, nat_tests)

numeric-ascii : (bs : List ℕ) → list_all is_numeric bs ≡ true → IsAscii bs
numeric-ascii [] h = IsAscii-nil
numeric-ascii (b ∷ bs) h =
    let p = and_parts (is_numeric b) (list_all is_numeric bs) h in
    let low = numeric-low b p.0 in
    IsAscii-cons b bs low (numeric-ascii bs p.1)

pub reading-utf8 : (bs : List ℕ) (limit : ℕ) (z : ℤ) → reading bs limit ≡ Ok z → is_utf8 bs ≡ true
reading-utf8 bs limit z h = is_utf8-from_IsUtf8 bs (IsUtf8-from_ascii bs (numeric-ascii bs (reading-all bs limit z h)))

-- where a text is none, it is no UTF-8
pub no-text : (t : Bool) (bs : List ℕ) → t ≡ true → None ≡ (if t then Some bs else None) → ⊥
no-text true bs e h = cc
no-text false bs e h = cc
