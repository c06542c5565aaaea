-- How many bytes the answer to a request has at most, about, reckoned before it is made (docs/WMS.md, "HTTP").
use Rattle.std.specs.Prelude.{ℕ, ◌+◌, ◌*◌, ◌-◌, List, [], ◌∷◌, Bool, ◌||◌, ◌==◌, max, min, codes, if◌then◌else◌}
use Rattle.std.specs.Char.{is_ascii_digit, to_ascii_lowercase}
use Rattle.httpedge.specs.declared.reckoning.TheConstants.{MAX_NUMBER}

-- a parameter begins after a question mark or an ampersand
abbrev pub is_before_parameter : ℕ → Bool
is_before_parameter byte = byte == 63 || byte == 38

-- an ampersand or a blank ends a value
abbrev pub is_after_value : ℕ → Bool
is_after_value byte = byte == 38 || byte == 32

-- a number with a further digit
abbrev pub with_digit : ℕ → ℕ → ℕ
with_digit number digit = min MAX_NUMBER (number * 10 + (digit - 48))

-- the number that the digits make after those of `number`. Where anything else stands among them it may be any, so it is the largest
abbrev pub number_from : ℕ → List ℕ → ℕ
number_from number [] = number
number_from number (byte ∷ bytes) = if is_ascii_digit byte then number_from (with_digit number byte) bytes else (if is_after_value byte then number else MAX_NUMBER)

-- the number of the parameter that a text begins with, where it has this name, in any case of its letters, and else 0. An encoded letter may be any
abbrev pub number_of : List ℕ → List ℕ → ℕ
number_of [] [] = 0
number_of [] (byte ∷ bytes) = if byte == 61 then number_from 0 bytes else 0
number_of (letter ∷ name) [] = 0
number_of (letter ∷ name) (byte ∷ bytes) = if byte == 37 then MAX_NUMBER else (if to_ascii_lowercase byte == letter then number_of name bytes else 0)

-- the largest number of a parameter with this name, or `most` where none is larger
abbrev pub largest_from : List ℕ → ℕ → List ℕ → ℕ
largest_from name most [] = most
largest_from name most (byte ∷ bytes) = largest_from name (if is_before_parameter byte then max most (number_of name bytes) else most) bytes

-- the largest number of a parameter with this name, 0 without one
abbrev pub largest : List ℕ → List ℕ → ℕ
largest name text = largest_from name 0 text

-- four bytes for each pixel of WIDTH and HEIGHT, a kilobyte for each feature of FEATURE_COUNT, and one more
unfoldable pub reckoned_bytes : List ℕ → ℕ
reckoned_bytes text = 4 * (largest (codes "width") text * largest (codes "height") text) + 1024 * (largest (codes "feature_count") text + 1)
