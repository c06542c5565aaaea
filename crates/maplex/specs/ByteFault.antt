-- What is wrong with a bad byte, where one is the first fault of a source (docs/MAPFILE.md, "Tokens").
use Rattle.std.specs.Prelude.{ℕ, zero, suc, nat_lt, if◌then◌else◌, Bool, true, false, Option, None, Some, Result, Ok, Err, List, [], ◌∷◌, length}
use Rattle.std.specs.List.{position_or_len}
use Rattle.std.specs.Str.Lossy.{utf8_valid_len}
use Rattle.maplex.specs.declared.bad_byte.ByteFault.{ByteFault}
use Rattle.maplex.specs.declared.bad_byte.ByteFault.TheVariants as wrong
use Rattle.maplex.specs.declared.extent.Extent.{Extent}
use Rattle.maplex.specs.declared.fault.LexKind.{LexKind}
use Rattle.maplex.specs.declared.fault.LexKind.TheVariants.{BadByte}
use Rattle.maplex.specs.declared.fault.Tail.{Tail}
use Rattle.maplex.specs.declared.fault.Tail.TheVariants.{Ends, Breaks}
use Rattle.maplex.specs.Byte.{is_control}
use Rattle.maplex.specs.Position.{Position, start, after_blanks}
use Rattle.maplex.specs.Token.{Stops, Reads, step, extent_of, text_of, bad_at}

-- what is wrong with the first bad byte of a text, which is a control byte or begins what isn't UTF-8
abbrev pub text_byte_fault : List ℕ → Option ByteFault
text_byte_fault text =
    if nat_lt (bad_at text) (length text)
    then Some (if nat_lt (utf8_valid_len text) (position_or_len is_control text) then wrong.NotUtf8 else wrong.Control)
    else None

-- what is wrong with the first bad byte of the token with an extent; without an extent a bracket may close nothing
abbrev pub byte_fault_in : List ℕ → Result Extent LexKind → Option ByteFault
byte_fault_in bytes (Ok e) = text_byte_fault (text_of e bytes)
byte_fault_in bytes (Err BadByte) = Some wrong.ClosesNothing
byte_fault_in bytes (Err kind) = None

-- what is wrong with the first bad byte of the token that begins some bytes
abbrev pub byte_fault_of : List ℕ → Option ByteFault
byte_fault_of [] = None
byte_fault_of (b ∷ bs) = byte_fault_in (b ∷ bs) (extent_of b bs)

-- the same where lexing from a position on stops, in so many steps
unfoldable pub byte_fault_within : ℕ → Position → Option ByteFault
byte_fault_within zero p = None
byte_fault_within (suc n) p = elim (step (after_blanks p)) [
  | Stops tail ↦ byte_fault_of (after_blanks p).rest
  | Reads t next ↦ byte_fault_within n next
]

-- the same of a source: a token takes a byte at least, so that as many steps as bytes are enough
abbrev pub byte_fault : List ℕ → Option ByteFault
byte_fault source = byte_fault_within (length source) (start source)

-- the kind of a fault is that of a bad byte
abbrev pub is_bad_byte : LexKind → Bool
is_bad_byte BadByte = true
is_bad_byte kind = false

-- after the last token comes a bad byte
abbrev pub is_at_bad_byte : Tail → Bool
is_at_bad_byte (Ends line) = false
is_at_bad_byte (Breaks f) = is_bad_byte f.kind
