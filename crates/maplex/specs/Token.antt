-- The token at a position, or its fault (docs/MAPFILE.md, "Tokens").
use Rattle.std.specs.Prelude.{ℕ, ◌+◌, ◌*◌, min, nat_lt, ◌==◌, if◌then◌else◌, Option, None, Some, Result, Ok, Err, List, [], ◌∷◌, length, take, drop, position}
use Rattle.std.specs.List.{position_or_len}
use Rattle.std.specs.Str.Lossy.{utf8_valid_len}
use Rattle.maplex.specs.declared.extent.Extent.{Extent}
use Rattle.maplex.specs.declared.fault.LexFault.{LexFault}
use Rattle.maplex.specs.declared.fault.LexKind.{LexKind}
use Rattle.maplex.specs.declared.fault.LexKind.TheVariants.{OpenString, BadByte, TooLong}
use Rattle.maplex.specs.declared.fault.Tail.{Tail}
use Rattle.maplex.specs.declared.fault.Tail.TheVariants.{Ends, Breaks}
use Rattle.maplex.specs.declared.token.Shape.{Shape}
use Rattle.maplex.specs.declared.token.Shape.TheVariants as shape
use Rattle.maplex.specs.declared.token.TheConstants.{TOKEN_LIMIT}
use Rattle.maplex.specs.Byte.{is_quote, is_closing, ends_word, is_control}
use Rattle.maplex.specs.Logic.{logic_size}
use Rattle.maplex.specs.Position.{Position, line_ends, further}

-- a token: its shape, the bytes of its text, and the line on which it begins
pub record TokenValue : Type 0 where
  pub shape : Shape
  pub text : List ℕ
  pub line : ℕ

-- how many bytes a token has on each side of its text: a quoted text has a quote, a list a bracket
abbrev pub border_len : Shape → ℕ
border_len shape.Word = 0
border_len shape.Text = 1
border_len shape.Logic = 0
border_len shape.List = 1

-- how many bytes a token takes; its extent is its shape, and the size of its text
abbrev pub token_len : Extent → ℕ
token_len e = e.size + 2 * border_len e.shape

-- the text of a token that begins some bytes
abbrev pub text_of : Extent → List ℕ → List ℕ
text_of e bytes = take e.size (drop (border_len e.shape) bytes)

-- a bare word has its first byte, and goes on up to one that ends it
abbrev pub word_extent : List ℕ → Extent
word_extent bs = record { shape = shape.Word; size = 1 + position_or_len ends_word bs }

-- another token goes on up to the byte that closes it, after a text of this size; where none does, the source ends inside it
abbrev pub closed_extent : Shape → Option ℕ → Result Extent LexKind
closed_extent s None = Err OpenString
closed_extent s (Some size) = Ok (record { shape = s; size = size })

-- the shape of the token that begins with a byte; none begins with a bracket that closes
abbrev pub shape_of : ℕ → Option Shape
shape_of b =
    if is_quote b then Some shape.Text
    else (if b == 40 then Some shape.Logic
    else (if b == 123 then Some shape.List
    else (if is_closing b then None else Some shape.Word)))

-- The extent of a token by its shape, its first byte and those after it. A quoted text is closed by its quote, a
-- logical expression by the bracket that matches, a list by the next `}`.
abbrev pub extent_by : Option Shape → ℕ → List ℕ → Result Extent LexKind
extent_by None b bs = Err BadByte
extent_by (Some shape.Word) b bs = Ok (word_extent bs)
extent_by (Some shape.Text) b bs = closed_extent shape.Text (position (λ c. c == b) bs)
extent_by (Some shape.Logic) b bs = closed_extent shape.Logic (logic_size bs)
extent_by (Some shape.List) b bs = closed_extent shape.List (position (λ c. c == 125) bs)

-- the extent of the token that begins with a byte before others
abbrev pub extent_of : ℕ → List ℕ → Result Extent LexKind
extent_of b bs = extent_by (shape_of b) b bs

-- the index of the first bad byte of a text, a control byte or one that isn't UTF-8; else the text's length
abbrev pub bad_at : List ℕ → ℕ
bad_at text = min (position_or_len is_control text) (utf8_valid_len text)

-- a fault of a kind on a line
abbrev pub fault : ℕ → LexKind → LexFault
fault line kind = record { line = line; kind = kind }

-- the fault in a text that begins on a line, if it has one: a bad byte, else too many bytes
abbrev pub text_fault : ℕ → List ℕ → Option LexFault
text_fault line text =
    if nat_lt (bad_at text) (length text) then Some (fault (line + line_ends (take (bad_at text) text)) BadByte)
    else (if nat_lt TOKEN_LIMIT (length text) then Some (fault line TooLong) else None)

-- one step of reading: it stops at the end of the source or at a fault, or reads a token and goes on after it
pub data Step : Type 0 where
  Stops : Tail → Step
  Reads : TokenValue → Position → Step

-- a step that stops where there is a fault
abbrev pub unless : Option LexFault → Step → Step
unless (Some f) other = Stops (Breaks f)
unless None other = other

-- the step that reads the token with an extent
abbrev pub token_at : Position → Extent → Step
token_at p e = Reads (record { shape = e.shape; text = text_of e p.rest; line = p.line }) (further (token_len e) p)

-- the step over a token with an extent, or to the fault in its text; without an extent, to the fault of what begins here
abbrev pub checked_at : Position → Result Extent LexKind → Step
checked_at p (Err kind) = Stops (Breaks (fault p.line kind))
checked_at p (Ok e) = unless (text_fault p.line (text_of e p.rest)) (token_at p e)

-- the step at a position where these bytes are left
abbrev pub step_of : Position → List ℕ → Step
step_of p [] = Stops (Ends p.line)
step_of p (b ∷ bs) = checked_at p (extent_of b bs)

-- the step at a position
abbrev pub step : Position → Step
step p = step_of p p.rest
