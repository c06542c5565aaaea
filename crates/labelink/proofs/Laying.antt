-- The glyphs of a text, a character at a time.
use Rattle.std.proofs.Common.{◌≡◌, ℕ, ◌+◌, List, [], ◌∷◌, ◌++◌, None, Some, ℤ, refl, ◌∙◌, arith}
use Rattle.std.proofs.lemmas.List.{append_assoc}
use Rattle.geom.specs.Device.{PixelValue}
use Rattle.mapdefs.specs.declared.font.FontFields.{FontFields}
use Rattle.mapdefs.specs.declared.font.Glyph.{Glyph}
use Rattle.bdffont.specs.Ink.{bottom_of, first_row, glyph_of, left_of}
use Rattle.labelink.specs.Ink.{GlyphValue, glyphs_from}

module _ (font : FontFields) (at : PixelValue) (pen : ℕ) (characters : List ℕ) where
  -- without characters there are none
  pub lay-end : characters ≡ [] → glyphs_from font at pen characters ≡ []
  lay-end e = rw e refl

  module _ (c : ℕ) (cs : List ℕ) (e : characters ≡ c ∷ cs) where
    -- a first character without a glyph
    pub lay-skip : glyph_of font.glyphs c ≡ None → glyphs_from font at pen characters ≡ glyphs_from font at pen cs
    lay-skip none = let still : pen + 0 ≡ pen = omega arith in rw (e, none, still) refl

    -- and one with a glyph
    pub lay-next : (g : Glyph) → glyph_of font.glyphs c ≡ Some g →
        glyphs_from font at pen characters ≡ record { glyph = g; left = left_of at.i pen g.bounds; top = first_row (bottom_of at.j font.bounds g.bounds) g.bounds.height } ∷ glyphs_from font at (pen + g.advance) cs
    lay-next g is = rw (e, is) refl

-- a list that is built from its first element on
pub laid-more : (xs new : List GlyphValue) (x y : GlyphValue) (rest all : List GlyphValue) → new ≡ xs ++ x ∷ [] → x ≡ y → xs ++ (y ∷ rest) ≡ all → new ++ rest ≡ all
laid-more xs new x y rest all more same e = rw (more, same) (append_assoc xs (y ∷ []) rest ∙ e)

-- glyphs with the same corners
pub same-place : (g : Glyph) (left at_left top at_top : ℤ) → left ≡ at_left → top ≡ at_top → ◌≡◌ {A = GlyphValue} (record { glyph = g; left = left; top = top }) (record { glyph = g; left = at_left; top = at_top })
same-place g left at_left top at_top e f = rw (e, f) refl
