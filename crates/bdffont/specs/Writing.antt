-- A font that is written out line by line (Glyph Bitmap Distribution Format 2.1).
use Rattle.std.specs.Prelude.{◌≡◌, ℕ, zero, suc, ◌+◌, ◌*◌, ◌^◌, ◌<◌, ◌≤◌, Bool, true, false, List, [], ◌∷◌, ◌++◌, length, take, drop, All, None, Ok, ℤ, pos, negsuc, unsigned_abs}
use Rattle.std.specs.Fmt.{decimal}
use Rattle.std.specs.List.{flat_map}
use Rattle.mapdefs.specs.declared.font.BitmapBox.{BitmapBox}
use Rattle.mapdefs.specs.declared.font.FontFields.{FontFields}
use Rattle.mapdefs.specs.declared.font.Glyph.{Glyph}
use Rattle.mapdefs.specs.declared.limits.TheConstants.{MAX_FINE_GLYPH_SIDE, MAX_GLYPHS}
use Rattle.bdffont.specs.declared.keyword.Keyword.{Keyword}
use Rattle.bdffont.specs.declared.keyword.Keyword.TheVariants.{StartFont, FontBoundingBox, Chars, StartChar, Encoding, Dwidth, Bbx, Bitmap, EndChar, EndFont}
use Rattle.bdffont.specs.declared.section.ReaderState.{ReaderState}
use Rattle.bdffont.specs.declared.section.Section.{Section}
use Rattle.bdffont.specs.declared.section.Section.TheVariants.{Before, InHeader, Between, InGlyph, InRows, Ended}
use Rattle.bdffont.specs.Bits.{filled, written}
use Rattle.bdffont.specs.File.{reads}
use Rattle.bdffont.specs.Keyword.{keyword_in, spelling}
use Rattle.bdffont.specs.Sections.{start}
use Rattle.bdffont.specs.Side.{side_of}

-- a whole number: its digits, after a minus if it is below 0
abbrev pub whole : ℤ → List ℕ
whole (pos n) = decimal n
whole (negsuc n) = 45 ∷ decimal (suc n)

-- a line: a keyword, and words after it, each after a space
abbrev pub line_of : Keyword → List (List ℕ) → List ℕ
line_of keyword words = spelling keyword ++ flat_map (λ word. 32 ∷ word) words

-- a box: its width, its height, and its two offsets
abbrev pub box_words : BitmapBox → List (List ℕ)
box_words b = decimal b.width ∷ decimal b.height ∷ whole b.xoff ∷ whole b.yoff ∷ []

-- so many rows of pixels of a width, from the top
unfoldable pub row_lines : ℕ → ℕ → List Bool → List (List ℕ)
row_lines width zero pixels = []
row_lines width (suc n) pixels = written (filled (take width pixels)) ∷ row_lines width n (drop width pixels)

-- a glyph: its encoding, its advance to the right, its box and its rows. The advance upwards is some number.
abbrev pub glyph_lines : ℕ → Glyph → List (List ℕ)
glyph_lines up g =
    line_of StartChar [] ∷ line_of Encoding (decimal g.encoding ∷ []) ∷ line_of Dwidth (decimal g.advance ∷ decimal up ∷ []) ∷ line_of Bbx (box_words g.bounds) ∷ line_of Bitmap []
    ∷ (row_lines g.bounds.width g.bounds.height g.rows ++ line_of EndChar [] ∷ [])

-- a font: its box, how many glyphs it has, and these one after another
abbrev pub font_lines : ℕ → FontFields → List (List ℕ)
font_lines up f =
    line_of StartFont [] ∷ line_of FontBoundingBox (box_words f.bounds) ∷ line_of Chars (decimal (length f.glyphs) ∷ []) ∷ (flat_map (glyph_lines up) f.glyphs ++ line_of EndFont [] ∷ [])

-- a box can be written: its sides and its offsets are within the limit
pub record IsBox (most : ℕ) (b : BitmapBox) : Type 0 where
  pub columns : b.width ≤ most
  pub rows : b.height ≤ most
  pub right : unsigned_abs b.xoff ≤ most
  pub up : unsigned_abs b.yoff ≤ most

-- so can a glyph: it is one of a character, and has a truth value for each pixel of its box
pub record IsGlyph (most : ℕ) (g : Glyph) : Type 0 where
  pub encoding : g.encoding < 2 ^ 32
  pub advance : g.advance < 256
  pub bounds : IsBox most g.bounds
  pub area : length g.rows ≡ g.bounds.height * g.bounds.width

-- and a font, whose side is the greatest of these
pub record IsWritable (most : ℕ) (f : FontFields) : Type 0 where
  pub bounds : IsBox most f.bounds
  pub count : length f.glyphs ≤ MAX_GLYPHS
  pub each : All (IsGlyph most) f.glyphs
  pub side : f.side ≡ side_of f.bounds f.glyphs

-- the law that a font that is written out is read as that font
abbrev pub WrittenFontIsRead : Type 0
WrittenFontIsRead =
    (most : ℕ) (f : FontFields) (up line : ℕ) → most ≤ MAX_FINE_GLYPH_SIDE → up < 2 ^ 32 → IsWritable most f →
    reads (start most) line (font_lines up f) ≡ Ok f

-- lines that begin with no keyword may stand in a section: in the header, between glyphs, in a glyph's header, and after the font
abbrev pub allows_others : Section → Bool
allows_others (InHeader h) = true
allows_others (Between d) = true
allows_others (InGlyph d g) = true
allows_others (Ended font) = true
allows_others (Before most) = false
allows_others (InRows d r) = false

-- the law that a line whose first word is no keyword, in such a section, changes nothing
abbrev pub OtherLinesAreSkipped : Type 0
OtherLinesAreSkipped =
    (s : ReaderState) (line : ℕ) (text : List ℕ) (texts : List (List ℕ)) → allows_others s.section ≡ true → keyword_in text ≡ None →
    reads s line (text ∷ texts) ≡ reads s (line + 1) texts
