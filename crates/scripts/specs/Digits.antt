-- Lines of hexadecimal digits, and the bytes of which they are the text (docs/SERVICE.md, "Sessions").
use Rattle.std.specs.Prelude.{◌≡◌, ◌≤◌, ◌<◌, ◌+◌, ◌-◌, ◌*◌, ◌&&◌, nat_le, ℕ, if◌then◌else◌, List, [], ◌∷◌, ◌++◌, length, Option, None, Some, codes}
use Rattle.std.specs.List.{All, concat, flat_map}
use Rattle.operations.specs.declared.mime.Mime.TheVariants.{Png, Pixmap, ArbitraryMap}
use Rattle.scripts.specs.Transcript.{body_text}

-- the value of a digit: 0 to 9 for themselves, a to f for 10 to 15
abbrev pub digit_value : ℕ → Option ℕ
digit_value digit =
    if nat_le 48 digit && nat_le digit 57 then Some (digit - 48)
    else if nat_le 97 digit && nat_le digit 102 then Some (digit - 87)
    else None

-- the byte of two digits: the first counts sixteens, the second ones
abbrev pub byte_of : Option ℕ → Option ℕ → Option ℕ
byte_of (Some sixteens) (Some ones) = Some (16 * sixteens + ones)
byte_of (Some sixteens) None = None
byte_of None ones = None

-- a byte and those after it, where all are known
abbrev pub with_byte : Option ℕ → Option (List ℕ) → Option (List ℕ)
with_byte (Some byte) (Some bytes) = Some (byte ∷ bytes)
with_byte (Some byte) None = None
with_byte None bytes = None

-- the bytes of a text of digits, two digits each
unfoldable pub bytes_of : List ℕ → Option (List ℕ)
bytes_of [] = Some []
bytes_of (digit ∷ []) = None
bytes_of (first ∷ second ∷ digits) = with_byte (byte_of (digit_value first) (digit_value second)) (bytes_of digits)

-- each line has 64 digits, but the last one, which has 1 to 64
abbrev pub AreFullLines : List (List ℕ) → Type 0
AreFullLines [] = Unit {0}
AreFullLines (line ∷ []) = (0 < length line) × (length line ≤ 64)
AreFullLines (line ∷ next ∷ lines) = (length line ≡ 64) × AreFullLines (next ∷ lines)

-- lines as they are written, each with its LF
abbrev pub lines_text : List (List ℕ) → List ℕ
lines_text lines = flat_map (λ line. line ++ codes "\n") lines

-- the law: the body of a picture, in each format, is written as such lines, and their digits, one line after the other, are the text of its bytes
abbrev pub DigitsStandForBody : Type 0
DigitsStandForBody = (body : List ℕ) → All (λ byte. byte < 256) body →
    (lines : List (List ℕ)) × (body_text Png body ≡ lines_text lines) × (body_text Pixmap body ≡ lines_text lines) × (body_text ArbitraryMap body ≡ lines_text lines) × AreFullLines lines × (bytes_of (concat lines) ≡ Some body)
