-- The fields of a font and of its glyphs (Glyph Bitmap Distribution Format 2.1; docs/FILES.md, "Lines of a font").
use Rattle.std.specs.Prelude.{ℕ, ◌^◌, Bool, not, ◌||◌, ◌&&◌, nat_le, nat_lt, if◌then◌else◌, List, Option, None, Some, Result, Ok, Err}
use Rattle.geom.specs.Decimal.{signed}
use Rattle.mapdefs.specs.declared.font.BitmapBox.{BitmapBox}
use Rattle.bdffont.specs.declared.fault.FontKind.{FontKind}
use Rattle.bdffont.specs.declared.fault.FontKind.TheVariants.{Field, Limit}
use Rattle.bdffont.specs.declared.fields.BoxNumbers.{BoxNumbers}
use Rattle.bdffont.specs.declared.fields.Encoding.{Encoding}
use Rattle.bdffont.specs.declared.fields.Encoding.TheVariants.{NoCharacter, Character}
use Rattle.bdffont.specs.declared.number.WholeNumber.{WholeNumber}
use Rattle.bdffont.specs.Number.{number_at}

-- a side or an offset is within its limit
abbrev pub is_small : ℕ → WholeNumber → Bool
is_small most n = nat_le n.size most

-- so are all four of a box
abbrev pub are_small : ℕ → BoxNumbers → Bool
are_small most b = ((is_small most b.width && is_small most b.height) && is_small most b.xoff) && is_small most b.yoff

-- the box of a width, a height and two offsets: its sides are not negative, and all four are small
abbrev pub box_of : ℕ → BoxNumbers → Result BitmapBox FontKind
box_of most b =
    if b.width.is_negative || b.height.is_negative then Err Field
    else (if are_small most b
    then Ok (record { width = b.width.size; height = b.height.size; xoff = signed b.xoff.is_negative b.xoff.size; yoff = signed b.yoff.is_negative b.yoff.size })
    else Err Limit)

-- the numbers of a box, if all four are there
abbrev pub numbers_of : Option WholeNumber → Option WholeNumber → Option WholeNumber → Option WholeNumber → Option BoxNumbers
numbers_of (Some w) (Some h) (Some x) (Some y) = Some (record { width = w; height = h; xoff = x; yoff = y })
numbers_of _ _ _ _ = None

-- those of a line: the four words after its keyword
abbrev pub numbers_at : List ℕ → Option BoxNumbers
numbers_at line = numbers_of (number_at 1 line) (number_at 2 line) (number_at 3 line) (number_at 4 line)

-- the box of these numbers
abbrev pub box_with : ℕ → Option BoxNumbers → Result BitmapBox FontKind
box_with most (Some b) = box_of most b
box_with most None = Err Field

-- the box of a line, with sides and offsets of at most so many pixels
abbrev pub box_at : ℕ → List ℕ → Result BitmapBox FontKind
box_at most line = box_with most (numbers_at line)

-- the encoding that a number is: no character has a negative one, and none has one of 2^32 or more
abbrev pub encoding_of : Option WholeNumber → Result Encoding FontKind
encoding_of None = Err Field
encoding_of (Some n) = Ok (if n.is_negative || nat_le (2 ^ 32) n.size then NoCharacter else Character n.size)

-- the encoding of a line: the word after its keyword
abbrev pub encoding_at : List ℕ → Result Encoding FontKind
encoding_at line = encoding_of (number_at 1 line)

-- the advance of two numbers, to the right and upwards: the second is only required to be a number
abbrev pub advance_of : Option WholeNumber → Option WholeNumber → Result ℕ FontKind
advance_of (Some across) (Some up) = if not across.is_negative && nat_lt across.size 256 then Ok across.size else Err Field
advance_of _ _ = Err Field

-- the advance of a line: the two words after its keyword
abbrev pub advance_at : List ℕ → Result ℕ FontKind
advance_at line = advance_of (number_at 1 line) (number_at 2 line)

-- the count that a number is
abbrev pub count_of : Option WholeNumber → Result ℕ FontKind
count_of None = Err Field
count_of (Some n) = if n.is_negative then Err Field else Ok n.size

-- the count of a line: the word after its keyword
abbrev pub count_at : List ℕ → Result ℕ FontKind
count_at line = count_of (number_at 1 line)
