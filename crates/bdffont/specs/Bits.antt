-- The rows of a glyph's bitmap (Glyph Bitmap Distribution Format 2.1, BITMAP).
use Rattle.std.specs.Prelude.{◌≡◌, ℕ, ◌+◌, ◌-◌, ◌*◌, ◌/◌, ◌%◌, Bool, true, false, IsTrue, ◌==◌, ◌&&◌, nat_le, nat_lt, if◌then◌else◌, List, [], ◌∷◌, ◌++◌, length, take, replicate}
use Rattle.std.specs.List.{list_all, flat_map}
use Rattle.std.specs.Char.{is_ascii_hexdigit}

-- the value of a hexadecimal digit
abbrev pub hex_value : ℕ → ℕ
hex_value digit = if nat_le digit 57 then digit - 48 else (if nat_le digit 70 then digit - 65 + 10 else digit - 97 + 10)

-- the four bits of a value below 16, the highest first
abbrev pub bits_of : ℕ → List Bool
bits_of value = (value / 8 % 2 == 1) ∷ (value / 4 % 2 == 1) ∷ (value / 2 % 2 == 1) ∷ (value % 2 == 1) ∷ []

-- the bits of hexadecimal digits, one digit after another
abbrev pub bits : List ℕ → List Bool
bits digits = flat_map (λ digit. bits_of (hex_value digit)) digits

-- a line is a row of so many pixels: two digits for each eight of them, or part of eight, all hexadecimal
abbrev pub is_row : ℕ → List ℕ → Bool
is_row width line = length line == ((width + 7) / 8) * 2 && list_all is_ascii_hexdigit line

-- the pixels of a row: its first bits, as many as it is wide
abbrev pub row_pixels : ℕ → List ℕ → List Bool
row_pixels width line = take width (bits line)

-- the hexadecimal digit of a value below 16
abbrev pub hex_digit : ℕ → ℕ
hex_digit value = if nat_lt value 10 then value + 48 else value + 55

-- a pixel as a bit
abbrev pub bit : Bool → ℕ
bit true = 1
bit false = 0

-- pixels as hexadecimal digits: four in each, the leftmost one as its highest bit
abbrev pub written : List Bool → List ℕ
written (a ∷ b ∷ c ∷ d ∷ others) = hex_digit (8 * bit a + 4 * bit b + 2 * bit c + bit d) ∷ written others
written _ = []

-- a row of pixels, made up to a whole number of eight by pixels without ink
abbrev pub filled : List Bool → List Bool
filled row = row ++ replicate (((length row + 7) / 8) * 8 - length row) false

-- the law that a row of pixels that is written out is a row of its width, and is read back
abbrev pub WrittenRowIsRead : Type 0
WrittenRowIsRead = (row : List Bool) → IsTrue (is_row (length row) (written (filled row))) × (row_pixels (length row) (written (filled row)) ≡ row)
