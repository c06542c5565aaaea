-- What a BDF file says, line by line (Glyph Bitmap Distribution Format 2.1; docs/FILES.md, "Bitmap fonts").
use Rattle.std.specs.Prelude.{◌≡◌, ℕ, ◌+◌, Bool, true, ◌==◌, nat_lt, List, [], ◌∷◌, find, Option, None, Some, Result, Ok, Err}
use Rattle.std.specs.Str.Lines.{lines}
use Rattle.mapdefs.specs.declared.font.FontFields.{FontFields}
use Rattle.mapdefs.specs.declared.font.Glyph.{Glyph}
use Rattle.mapdefs.specs.declared.limits.TheConstants.{MAX_GLYPH_SIDE}
use Rattle.mapdefs.specs.FontLimits.{IsRising}
use Rattle.bdffont.specs.declared.fault.FontError.{FontError}
use Rattle.bdffont.specs.declared.fault.FontError.TheVariants.{Fault, NoMemory}
use Rattle.bdffont.specs.declared.fault.FontFault.{FontFault}
use Rattle.bdffont.specs.declared.fault.FontKind.{FontKind}
use Rattle.bdffont.specs.declared.fault.FontKind.TheVariants.{Start, Truncated}
use Rattle.bdffont.specs.declared.section.Section.{Section}
use Rattle.bdffont.specs.declared.section.Section.TheVariants.{Before, Ended}
use Rattle.bdffont.specs.declared.section.ReaderState.{ReaderState}
use Rattle.bdffont.specs.declared.step.LineError.{LineError}
use Rattle.bdffont.specs.declared.step.LineError.TheVariants as stop
use Rattle.bdffont.specs.Sections.{says, start}
use Rattle.bdffont.specs.Side.{side_of}

-- a fault on a line
abbrev pub fault_on : ℕ → FontKind → FontFault
fault_on line kind = record { line = line; kind = kind }

-- what is read where no line is left: the font after ENDFONT, else a fault on the line that would come
abbrev pub at_end : ℕ → Section → Result FontFields FontFault
at_end line (Before most) = Err (fault_on line Start)
at_end line (Ended font) = Ok font
at_end line _ = Err (fault_on line Truncated)

-- what is read after a line: what follows from the state that the line makes, or its fault
abbrev pub after_line : ℕ → Result ReaderState FontKind → (ReaderState → Result FontFields FontFault) → Result FontFields FontFault
after_line line (Ok next) others = others next
after_line line (Err kind) others = Err (fault_on line kind)

-- what is read in lines from a state on: the font, with its glyphs in the order of the file, or the first fault
unfoldable pub reads : ReaderState → ℕ → List (List ℕ) → Result FontFields FontFault
reads s line [] = at_end line s.section
reads s line (text ∷ texts) = after_line line (says s text) (λ next. reads next (line + 1) texts)

-- what is read in a file with boxes of sides and offsets of at most so many pixels
abbrev pub file_within : ℕ → List ℕ → Result FontFields FontFault
file_within most bytes = reads (start most) 1 (lines bytes)

-- what is read in a file of pixels of the map
abbrev pub file_of : List ℕ → Result FontFields FontFault
file_of bytes = file_within MAX_GLYPH_SIDE bytes

-- a glyph has the encoding
abbrev pub has_encoding : ℕ → Glyph → Bool
has_encoding e glyph = glyph.encoding == e

-- glyphs by rising encodings: for each encoding the first glyph that the file has of it
pub record AreFirstsOf (file glyphs : List Glyph) : Type 0 where
  pub rising : IsRising glyphs
  pub firsts : (e : ℕ) → find (has_encoding e) glyphs ≡ find (has_encoding e) file

-- the font of a file
pub record IsFontOf (file font : FontFields) : Type 0 where
  pub side : font.side ≡ file.side
  pub bounds : font.bounds ≡ file.bounds
  pub glyphs : AreFirstsOf file.glyphs font.glyphs

-- the law that a file has one font, however its glyphs came to stand by their encodings
abbrev pub FileHasOneFont : Type 0
FileHasOneFont = (file a b : FontFields) → IsFontOf file a → IsFontOf file b → a ≡ b

-- the law that a file's side is the greatest side or offset of its font's box and of the glyphs that are characters
abbrev pub SideIsOfBoxes : Type 0
SideIsOfBoxes = (most : ℕ) (bytes : List ℕ) (f : FontFields) → file_within most bytes ≡ Ok f → f.side ≡ side_of f.bounds f.glyphs

-- an encoding is above the last one, if there is one
abbrev pub follows : Option ℕ → ℕ → Bool
follows None e = true
follows (Some last) e = nat_lt last e

-- the error where reading stops at a line
abbrev pub error_on : ℕ → LineError → FontError
error_on line (stop.Fault kind) = Fault (fault_on line kind)
error_on line stop.NoMemory = NoMemory

-- the error of a file: its fault, or refused memory
abbrev pub IsErrorOf : Result FontFields FontFault → FontError → Type 0
IsErrorOf file (Fault fault) = file ≡ Err fault
IsErrorOf file NoMemory = Unit {0}
