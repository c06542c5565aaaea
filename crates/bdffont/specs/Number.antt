-- The numbers of a line (Glyph Bitmap Distribution Format 2.1; docs/FILES.md, "Lines of a font").
use Rattle.std.specs.Prelude.{ℕ, ◌^◌, ◌==◌, ◌&&◌, nat_lt, if◌then◌else◌, List, [], ◌∷◌, length, Option, None, slice_get}
use Rattle.std.specs.Option.{option_map, option_and_then}
use Rattle.geom.specs.Decimal as decimal
use Rattle.geom.specs.Natural.{number_in, up_to}
use Rattle.bdffont.specs.declared.number.WholeNumber.{WholeNumber}
use Rattle.bdffont.specs.Words.{words}

-- the size that some digits stand for, at least one digit; a size is capped at 2^32, which is past every limit of a font
abbrev pub size_of : List ℕ → Option ℕ
size_of digits = if nat_lt 0 (length digits) then option_map (up_to (2 ^ 32)) (number_in digits) else None

-- the digits of a word, after a minus if it begins with one
abbrev pub digits_of : List ℕ → List ℕ
digits_of [] = []
digits_of (b ∷ bs) = if b == 45 then bs else b ∷ bs

-- a size with the sign of a word; 0 is not negative
abbrev pub with_sign : List ℕ → ℕ → WholeNumber
with_sign word size = record { is_negative = decimal.is_negative word && nat_lt 0 size; size = size }

-- the number that a word stands for: digits, after a minus or not
abbrev pub number_of : List ℕ → Option WholeNumber
number_of word = option_map (with_sign word) (size_of (digits_of word))

-- the number that the word of a line with this index stands for, the first word having index 0
abbrev pub number_at : ℕ → List ℕ → Option WholeNumber
number_at index line = option_and_then number_of (slice_get (words line) index)
