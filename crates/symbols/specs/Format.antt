-- The pixmap that some bytes are, or their first fault (Netpbm, PPM; docs/FILES.md, "Pixmaps").
use Rattle.std.specs.Prelude.{◌≡◌, ℕ, suc, ◌+◌, ◌*◌, ◌==◌, ◌&&◌, ◌||◌, not, Bool, true, false, if◌then◌else◌, nat_le, nat_lt, List, [], ◌∷◌, length, take, drop, slice_index_or, Option, None, Some, Result, Ok, Err}
use Rattle.std.specs.Char.{is_ascii_digit}
use Rattle.std.specs.List.{prefix_len}
use Rattle.std.specs.Option.{option_and_then}
use Rattle.geom.specs.Decimal.{number_of}
use Rattle.geom.specs.Natural.{up_to}
use Rattle.mapdefs.specs.declared.colour.Rgb.{Rgb}
use Rattle.mapdefs.specs.declared.limits.TheConstants.{MAX_SYMBOL_SIDE}
use Rattle.mapdefs.specs.declared.symbol.PixmapFields.{PixmapFields}
use Rattle.symbols.specs.declared.fault.PixFault.{PixFault}
use Rattle.symbols.specs.declared.fault.PixFault.TheVariants.{Magic, Header, Short, Limit, NoMemory}
use Rattle.symbols.specs.declared.header.HeaderFields.{HeaderFields}
use Rattle.symbols.specs.declared.header.HeaderNumber.{HeaderNumber}

-- white space: a space, TAB, LF, VT, FF or CR
abbrev pub is_space : ℕ → Bool
is_space b = b == 32 || (nat_le 9 b && nat_le b 13)

-- a comment lasts up to an LF or a CR
abbrev pub is_line_end : ℕ → Bool
is_line_end b = b == 10 || b == 13

-- how many bytes of white space and comments some bytes begin with, in a comment or outside of one
abbrev pub blanks_len : Bool → List ℕ → ℕ
blanks_len in_comment [] = 0
blanks_len true (b ∷ bs) = suc (blanks_len (not (is_line_end b)) bs)
blanks_len false (b ∷ bs) = if is_space b then suc (blanks_len false bs) else (if b == 35 then suc (blanks_len true bs) else 0)

-- white space is at an index
abbrev pub has_space_at : List ℕ → ℕ → Bool
has_space_at bytes at = nat_lt at (length bytes) && is_space (slice_index_or bytes at 0)

-- a number, or 1,000, which is past every limit: so far a number is read
unfoldable pub capped : ℕ → ℕ
capped = up_to 1000

-- the number after the white space and comments from an index on, and the index after its digits
abbrev pub number_at : List ℕ → ℕ → Option HeaderNumber
number_at bytes at =
    let start = at + blanks_len false (drop at bytes) in
    let digits = prefix_len is_ascii_digit (drop start bytes) in
    if digits == 0 then None else Some (record { value = capped (number_of (take digits (drop start bytes))); end = start + digits })

-- a header: white space, width, height and the greatest value 255, white space again; no side is 0
abbrev pub header_of : List ℕ → Option HeaderFields
header_of bytes =
    if has_space_at bytes 2
    then option_and_then (λ (width : HeaderNumber).
    option_and_then (λ (height : HeaderNumber).
    option_and_then (λ (greatest : HeaderNumber).
    if greatest.value == 255 && nat_lt 0 width.value && nat_lt 0 height.value && has_space_at bytes greatest.end
    then Some (record { width = width.value; height = height.value; start = greatest.end + 1 })
    else None) (number_at bytes height.end)) (number_at bytes width.end)) (number_at bytes 2)
    else None

-- the colours of three bytes each
abbrev pub colours_of : List ℕ → List Rgb
colours_of (r ∷ g ∷ b ∷ bs) = record { red = r; green = g; blue = b } ∷ colours_of bs
colours_of _ = []

-- the pixmap of some sides and the bytes after a header, of which there are three for each pixel or more
abbrev pub pixels_of : ℕ → ℕ → List ℕ → Result PixmapFields PixFault
pixels_of width height bytes =
    if nat_lt MAX_SYMBOL_SIDE width || nat_lt MAX_SYMBOL_SIDE height
    then Err Limit
    else (
    if nat_lt (length bytes) (3 * (width * height))
    then Err Short
    else Ok (record { width = width; height = height; pixels = colours_of (take (3 * (width * height)) bytes) })
    )

-- the bytes begin with P6
abbrev pub has_magic : List ℕ → Bool
has_magic (p ∷ six ∷ bs) = p == 80 && six == 54
has_magic _ = false

-- the pixmap that some bytes are, or their first fault
abbrev pub pixmap_of : List ℕ → Result PixmapFields PixFault
pixmap_of bytes =
    if has_magic bytes
    then (elim (header_of bytes) [
      | None ↦ Err Header
      | Some header ↦ pixels_of header.width header.height (drop header.start bytes)
    ])
    else Err Magic

-- the error is the fault of these bytes, or memory was refused
abbrev pub IsFaultOf : Result PixmapFields PixFault → PixFault → Type 0
IsFaultOf reading NoMemory = Unit {0}
IsFaultOf reading fault = reading ≡ Err fault
