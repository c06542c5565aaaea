-- Decimal numbers: their texts, and the millionths that they stand for (docs/MAPFILE.md, "Numbers").
use Rattle.std.specs.Prelude.{ℕ, suc, ◌+◌, ◌-◌, ◌*◌, ◌/◌, ◌^◌, ◌≤◌, ◌==◌, ◌||◌, ◌&&◌, Bool, true, false, if◌then◌else◌, nat_le, nat_lt, List, [], ◌∷◌, ◌++◌, length, ℤ, pos, negsuc, neg_ℤ, int_lt, unsigned_abs, Option, None, Some, Result, Ok, Err}
use Rattle.std.specs.List.{fold, before_first, after_first, list_all, list_any}
use Rattle.std.specs.Char.{is_ascii_digit}
use Rattle.geom.specs.declared.micro.NumberFault.{NumberFault}
use Rattle.geom.specs.declared.micro.NumberFault.TheVariants.{NotANumber, TooLarge}

-- how far apart two whole numbers are
abbrev pub distance : ℕ → ℕ → ℕ
distance a b = (a - b) + (b - a)

-- n is the whole number nearest to p / q: none is nearer, and none that is as near is greater
pub record IsNearest (p q n : ℕ) : Type 0 where
  pub near : (m : ℕ) → distance (n * q) p ≤ distance (m * q) p
  pub greatest : (m : ℕ) → distance (m * q) p ≤ distance (n * q) p → m ≤ n

-- the whole number nearest to p / q, in a tie the greater one
unfoldable pub nearest : ℕ → ℕ → ℕ
nearest p q = (2 * p + q) / (2 * q)

-- the law that it is so
abbrev pub NearestIsNearest : Type 0
NearestIsNearest = (p q : ℕ) → 1 ≤ q → IsNearest p q (nearest p q)

-- whether the text begins with a minus
abbrev pub is_negative : List ℕ → Bool
is_negative [] = false
is_negative (b ∷ bs) = b == 45

-- the text after its sign, if it has one
abbrev pub unsigned : List ℕ → List ℕ
unsigned [] = []
unsigned (b ∷ bs) = if b == 45 || b == 43 then bs else b ∷ bs

-- how far a number lies above 0, and how far below it
abbrev pub up : ℤ → ℕ
up (pos n) = n
up (negsuc n) = 0

abbrev pub down : ℤ → ℕ
down (pos n) = 0
down (negsuc n) = suc n

-- a size with its sign
abbrev pub signed : Bool → ℕ → ℤ
signed true n = neg_ℤ (pos n)
signed false n = pos n

-- n with a further digit
abbrev pub with_digit : ℕ → ℕ → ℕ
with_digit n digit = n * 10 + (digit - 48)

-- the whole number that some digits are
abbrev pub number_of : List ℕ → ℕ
number_of digits = fold with_digit 0 digits

-- the whole number that a text means: a sign or none, and digits, one at least
abbrev pub whole_number : List ℕ → Option ℤ
whole_number text =
    if nat_lt 0 (length (unsigned text)) && list_all is_ascii_digit (unsigned text)
    then Some (signed (is_negative text) (number_of (unsigned text)))
    else None

-- the point between digits
abbrev pub is_point : ℕ → Bool
is_point b = b == 46

-- the letter before an exponent, `e` or `E`
abbrev pub is_exponent_letter : ℕ → Bool
is_exponent_letter b = b == 101 || b == 69

-- there are only digits on both sides of the point, and one at least
abbrev pub are_digits : List ℕ → List ℕ → Bool
are_digits whole decimals = list_all is_ascii_digit whole && list_all is_ascii_digit decimals && nat_lt 0 (length whole + length decimals)

-- the exponent of a text: what stands after its letter, and 0 without one
abbrev pub exponent_of : List ℕ → Option ℤ
exponent_of text = if list_any is_exponent_letter text then whole_number (after_first is_exponent_letter text) else Some (pos 0)

-- a decimal number without its sign: the digits before the point, those after it, and the power of ten by which they count
pub record Decimal : Type 0 where
  pub whole : List ℕ
  pub decimals : List ℕ
  pub exponent : ℤ

-- the decimal number of the digits on both sides of the point and of an exponent
abbrev pub decimal_with : List ℕ → List ℕ → Option ℤ → Option Decimal
decimal_with whole decimals None = None
decimal_with whole decimals (Some exponent) =
    if are_digits whole decimals then Some (record { whole = whole; decimals = decimals; exponent = exponent }) else None

-- the decimal number of what stands before the exponent's letter, and of the exponent
abbrev pub decimal_from : List ℕ → Option ℤ → Option Decimal
decimal_from mantissa exponent = decimal_with (before_first is_point mantissa) (after_first is_point mantissa) exponent

-- the decimal number that a text without sign stands for
abbrev pub decimal_of : List ℕ → Option Decimal
decimal_of text = decimal_from (before_first is_exponent_letter text) (exponent_of text)

-- the number is numerator / denominator: ten to the power of the exponent counts above or below
abbrev pub numerator : Decimal → ℕ
numerator d = number_of (d.whole ++ d.decimals) * 10 ^ up d.exponent

abbrev pub denominator : Decimal → ℕ
denominator d = 10 ^ (length d.decimals + down d.exponent)

-- the nearest number of millionths
abbrev pub millionths_of : Decimal → ℕ
millionths_of d = nearest (1000000 * numerator d) (denominator d)

-- a size with its sign, if it is within the limit
abbrev pub limited : ℕ → Bool → ℕ → Result ℤ NumberFault
limited limit negative n = if nat_le n limit then Ok (signed negative n) else Err TooLarge

-- the millionths of the decimal number that was found
abbrev pub found : ℕ → Bool → Option Decimal → Result ℤ NumberFault
found limit negative None = Err NotANumber
found limit negative (Some d) = limited limit negative (millionths_of d)

-- what a text means as a number of millionths whose size is at most the limit
abbrev pub reading : List ℕ → ℕ → Result ℤ NumberFault
reading text limit = found limit (is_negative text) (decimal_of (unsigned text))

-- the whole number nearest to a number of millionths, in a tie the one of greater size
abbrev pub whole_of : ℤ → ℤ
whole_of z = signed (int_lt z (pos 0)) (nearest (unsigned_abs z) 1000000)
