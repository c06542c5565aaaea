-- Texts in a font: their extent, and the pixels that they ink (docs/FILES.md, "Texts in a font").
use Rattle.std.specs.Prelude.{◌≡◌, ℕ, ◌+◌, ◌*◌, Bool, false, ◌||◌, ◌&&◌, nat_lt, if◌then◌else◌, List, [], ◌∷◌, ◌++◌, find, Option, None, Some, ℤ, pos, ◌+ℤ◌, ◌-ℤ◌, int_lt, unsigned_abs, IsTrue, ◌↔◌, slice_index_or}
use Rattle.std.specs.List.{sum_by}
use Rattle.std.specs.Option.{option_map_or, option_or}
use Rattle.geom.specs.Device.{PixelValue}
use Rattle.mapdefs.specs.declared.font.BitmapBox.{BitmapBox}
use Rattle.mapdefs.specs.declared.font.FontFields.{FontFields}
use Rattle.mapdefs.specs.declared.font.Glyph.{Glyph}
use Rattle.bdffont.specs.File.{has_encoding}

-- the glyph that a character has: its own, else that of the question mark, which is 63
abbrev pub glyph_of : List Glyph → ℕ → Option Glyph
glyph_of glyphs character = option_or (find (has_encoding character) glyphs) (find (has_encoding 63) glyphs)

-- how far the pen advances after a character
abbrev pub advance_of : List Glyph → ℕ → ℕ
advance_of glyphs character = option_map_or (λ (glyph : Glyph). glyph.advance) (glyph_of glyphs character) 0

-- how far it advances after all characters of a text
abbrev pub text_width : List Glyph → List ℕ → ℕ
text_width glyphs characters = sum_by (advance_of glyphs) characters

-- the leftmost column of a glyph's box, where the pen has advanced so far from the left column of a text
abbrev pub left_of : ℤ → ℕ → BitmapBox → ℤ
left_of left pen bounds = left +ℤ pos pen +ℤ bounds.xoff

-- the last of so many rows
abbrev pub last_row : ℤ → ℕ → ℤ
last_row first height = first +ℤ pos height -ℤ pos 1

-- and the first
abbrev pub first_row : ℤ → ℕ → ℤ
first_row last height = last -ℤ (pos height -ℤ pos 1)

-- the bottom row of a glyph's box, in a text with this top row: the bottom row of the font's box, moved by both offsets
abbrev pub bottom_of : ℤ → BitmapBox → BitmapBox → ℤ
bottom_of top font bounds = last_row top font.height +ℤ font.yoff -ℤ bounds.yoff

-- how far a column or a row is past another one, if it is not before it
abbrev pub past : ℤ → ℤ → Option ℕ
past from to = if int_lt to from then None else Some (unsigned_abs (to -ℤ from))

-- a glyph has ink in a column and a row of its box
abbrev pub inks : Glyph → ℕ → ℕ → Bool
inks glyph column row =
    (nat_lt column glyph.bounds.width && nat_lt row glyph.bounds.height) && slice_index_or glyph.rows (row * glyph.bounds.width + column) false

-- it has ink there, if column and row are not before its box
abbrev pub inks_at : Glyph → Option ℕ → Option ℕ → Bool
inks_at glyph (Some column) (Some row) = inks glyph column row
inks_at glyph _ _ = false

-- a glyph has ink in column i and row j of the picture, in a text at a pixel, where the pen has advanced so far
abbrev pub covers : BitmapBox → PixelValue → ℕ → ℤ → ℤ → Glyph → Bool
covers font at pen i j glyph =
    inks_at glyph (past (left_of at.i pen glyph.bounds) i) (past (first_row (bottom_of at.j font glyph.bounds) glyph.bounds.height) j)

-- so has the glyph of a character
abbrev pub character_covers : FontFields → PixelValue → ℕ → ℤ → ℤ → ℕ → Bool
character_covers font at pen i j character = option_map_or (covers font.bounds at pen i j) (glyph_of font.glyphs character) false

-- some of these characters has ink there, the pen advancing with each
unfoldable pub has_ink_from : FontFields → PixelValue → ℤ → ℤ → ℕ → List ℕ → Bool
has_ink_from font at i j pen [] = false
has_ink_from font at i j pen (c ∷ cs) = character_covers font at pen i j c || has_ink_from font at i j (pen + advance_of font.glyphs c) cs

-- a text with its upper left pixel at a pixel has ink in column i and row j of the picture
abbrev pub has_ink : FontFields → List ℕ → PixelValue → ℤ → ℤ → Bool
has_ink font characters at i j = has_ink_from font at i j 0 characters

-- a character of the text has ink there: the pen has advanced by those before it
pub record InksCharacter (font : FontFields) (characters : List ℕ) (at : PixelValue) (i j : ℤ) : Type 0 where
  pub before : List ℕ
  pub character : ℕ
  pub after : List ℕ
  pub whole : characters ≡ before ++ (character ∷ after)
  pub covers : IsTrue (character_covers font at (text_width font.glyphs before) i j character)

-- the law that a text has ink where one of its characters has, and only there
abbrev pub InkIsOfACharacter : Type 0
InkIsOfACharacter = (font : FontFields) (characters : List ℕ) (at : PixelValue) (i j : ℤ) → IsTrue (has_ink font characters at i j) ↔ InksCharacter font characters at i j
