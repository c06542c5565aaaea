-- What each line of a BDF file says, by where it stands (Glyph Bitmap Distribution Format 2.1; docs/FILES.md, "Lines of a font").
use Rattle.std.specs.Prelude.{◌≡◌, ℕ, ◌+◌, ◌-◌, max, Bool, true, false, not, ◌==◌, ◌&&◌, nat_lt, if◌then◌else◌, List, [], ◌∷◌, ◌++◌, Option, None, Some, Result, Ok, Err}
use Rattle.mapdefs.specs.declared.font.BitmapBox.{BitmapBox}
use Rattle.mapdefs.specs.declared.limits.TheConstants.{MAX_GLYPHS}
use Rattle.bdffont.specs.declared.fault.FontKind.{FontKind}
use Rattle.bdffont.specs.declared.fault.FontKind.TheVariants.{Start, Field, Row, Count, Limit}
use Rattle.bdffont.specs.declared.fields.Encoding.{Encoding}
use Rattle.bdffont.specs.declared.fields.Encoding.TheVariants.{NoCharacter, Character}
use Rattle.bdffont.specs.declared.keyword.Keyword.{Keyword}
use Rattle.bdffont.specs.declared.keyword.Keyword.TheVariants as word
use Rattle.bdffont.specs.declared.section.Draft.{Draft}
use Rattle.bdffont.specs.declared.section.FontHeader.{FontHeader}
use Rattle.bdffont.specs.declared.section.GlyphHeader.{GlyphHeader}
use Rattle.bdffont.specs.declared.section.Section.{Section}
use Rattle.bdffont.specs.declared.section.Section.TheVariants.{Before, InHeader, Between, InGlyph, InRows, Ended}
use Rattle.bdffont.specs.declared.section.GlyphRows.{GlyphRows}
use Rattle.bdffont.specs.declared.section.ReaderState.{ReaderState}
use Rattle.bdffont.specs.declared.step.LineError.{LineError}
use Rattle.bdffont.specs.declared.step.LineError.TheVariants.{Fault, NoMemory}
use Rattle.bdffont.specs.Bits.{is_row, row_pixels}
use Rattle.bdffont.specs.Fields.{box_at, encoding_at, advance_at, count_at}
use Rattle.bdffont.specs.Keyword.{keyword_in}
use Rattle.bdffont.specs.Side.{box_side}
use Rattle.mapdefs.specs.Outcome.{and_then}

-- a glyph begins, if there is room for a further one; its header has named no field
abbrev pub opened : Draft → Result Section FontKind
opened d =
    if nat_lt d.started MAX_GLYPHS
    then Ok (InGlyph (record d { started = d.started + 1 }) (record { encoding = None; advance = None; bounds = None }))
    else Err Limit

-- the font ends, if as many glyphs have begun as CHARS announces
abbrev pub closed : Draft → Result Section FontKind
closed d = if d.started == d.count then Ok (Ended (record { side = d.side; bounds = d.bounds; glyphs = d.glyphs })) else Err Count

-- the font of a header that has both its fields
abbrev pub draft_with : ℕ → Option BitmapBox → Option ℕ → Result Draft FontKind
draft_with most (Some bounds) (Some count) =
    Ok (record { most = most; side = box_side bounds; bounds = bounds; count = count; started = 0; glyphs = [] })
draft_with most _ _ = Err Field

abbrev pub draft_of : FontHeader → Result Draft FontKind
draft_of h = draft_with h.most h.bounds h.count

-- the first line
abbrev pub before : ℕ → Option Keyword → Result Section FontKind
before most (Some word.StartFont) = Ok (InHeader (record { most = most; bounds = None; count = None }))
before most _ = Err Start

-- a line of the font's header
abbrev pub in_header : FontHeader → Option Keyword → List ℕ → Result Section FontKind
in_header h None line = Ok (InHeader h)
in_header h (Some word.FontBoundingBox) line = and_then (box_at h.most line) (λ b. Ok (InHeader (record h { bounds = Some b })))
in_header h (Some word.Chars) line = and_then (count_at line) (λ n. Ok (InHeader (record h { count = Some n })))
in_header h (Some word.StartChar) line = and_then (draft_of h) opened
in_header h (Some word.EndFont) line = and_then (draft_of h) closed
in_header h (Some _) line = Err Field

-- a line between two glyphs, or after the last
abbrev pub between : Draft → Option Keyword → Result Section FontKind
between d None = Ok (Between d)
between d (Some word.StartChar) = opened d
between d (Some word.EndFont) = closed d
between d (Some _) = Err Field

-- the header of a glyph with a further field
abbrev pub encoded : GlyphHeader → List ℕ → Result GlyphHeader FontKind
encoded g line = and_then (encoding_at line) (λ e. Ok (record g { encoding = Some e }))

abbrev pub advanced : GlyphHeader → List ℕ → Result GlyphHeader FontKind
advanced g line = and_then (advance_at line) (λ a. Ok (record g { advance = Some a }))

abbrev pub bounded : ℕ → GlyphHeader → List ℕ → Result GlyphHeader FontKind
bounded most g line = and_then (box_at most line) (λ b. Ok (record g { bounds = Some b }))

-- before the rows of a glyph whose header has all its fields, all rows remain
abbrev pub rows_with : Option Encoding → Option ℕ → Option BitmapBox → Result GlyphRows FontKind
rows_with (Some e) (Some a) (Some b) = Ok (record { encoding = e; advance = a; bounds = b; pixels = []; left = b.height })
rows_with _ _ _ = Err Field

abbrev pub rows_of : GlyphHeader → Result GlyphRows FontKind
rows_of g = rows_with g.encoding g.advance g.bounds

-- a line of a glyph's header
abbrev pub in_glyph : Draft → GlyphHeader → Option Keyword → List ℕ → Result Section FontKind
in_glyph d g None line = Ok (InGlyph d g)
in_glyph d g (Some word.Encoding) line = and_then (encoded g line) (λ next. Ok (InGlyph d next))
in_glyph d g (Some word.Dwidth) line = and_then (advanced g line) (λ next. Ok (InGlyph d next))
in_glyph d g (Some word.Bbx) line = and_then (bounded d.most g line) (λ next. Ok (InGlyph d next))
in_glyph d g (Some word.Bitmap) line = and_then (rows_of g) (λ rows. Ok (InRows d rows))
in_glyph d g (Some _) line = Err Field

-- the font with a glyph whose rows are read, and with its side; one that is no character is dropped
abbrev pub with_encoded : Draft → GlyphRows → Encoding → Draft
with_encoded d r NoCharacter = d
with_encoded d r (Character n) =
    record d { side = max d.side (box_side r.bounds); glyphs = d.glyphs ++ record { encoding = n; advance = r.advance; bounds = r.bounds; rows = r.pixels } ∷ [] }

abbrev pub with_glyph : Draft → GlyphRows → Draft
with_glyph d r = with_encoded d r r.encoding

-- the line after the last row
abbrev pub after_rows : Draft → GlyphRows → Option Keyword → Result Section FontKind
after_rows d r (Some word.EndChar) = Ok (Between (with_glyph d r))
after_rows d r _ = Err Row

-- a row, while rows remain, and then the line after the last one
abbrev pub in_rows : Draft → GlyphRows → List ℕ → Result Section FontKind
in_rows d r line =
    if nat_lt 0 r.left
    then (if is_row r.bounds.width line
    then Ok (InRows d (record r { pixels = r.pixels ++ row_pixels r.bounds.width line; left = r.left - 1 }))
    else Err Row)
    else after_rows d r (keyword_in line)

-- the section after a line that is none of the properties; after ENDFONT all lines are skipped
abbrev pub section_after : Section → List ℕ → Result Section FontKind
section_after (Before most) line = before most (keyword_in line)
section_after (InHeader h) line = in_header h (keyword_in line) line
section_after (Between d) line = between d (keyword_in line)
section_after (InGlyph d g) line = in_glyph d g (keyword_in line) line
section_after (InRows d r) line = in_rows d r line
section_after (Ended font) line = Ok (Ended font)

-- properties may stand in a header and between glyphs
abbrev pub has_properties : Section → Bool
has_properties (InHeader h) = true
has_properties (Between d) = true
has_properties (InGlyph d g) = true
has_properties _ = false

-- they begin with STARTPROPERTIES, and end with ENDPROPERTIES
abbrev pub opens_properties : Option Keyword → Bool
opens_properties (Some word.StartProperties) = true
opens_properties _ = false

abbrev pub closes_properties : Option Keyword → Bool
closes_properties (Some word.EndProperties) = true
closes_properties _ = false

-- the state before the first line, with boxes of sides and offsets of at most so many pixels
abbrev pub start : ℕ → ReaderState
start most = record { section = Before most; in_properties = false }

-- the state after a line: the properties are skipped, and every other line counts by its section
abbrev pub says : ReaderState → List ℕ → Result ReaderState FontKind
says s line =
    if s.in_properties then Ok (record s { in_properties = not (closes_properties (keyword_in line)) })
    else (if opens_properties (keyword_in line) && has_properties s.section then Ok (record s { in_properties = true })
    else and_then (section_after s.section line) (λ next. Ok (record { section = next; in_properties = false })))

-- why reading stops at a line: for the fault of the line, or for refused memory
abbrev pub IsStop : {X : Type 0} → LineError → Result X FontKind → Type 0
IsStop (Fault kind) said = said ≡ Err kind
IsStop NoMemory said = Unit {0}
