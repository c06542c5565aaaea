-- The ink of a text, a character at a time.
use Rattle.std.proofs.Common.{◌≡◌, ℕ, ◌+◌, true, false, List, [], ◌∷◌, length, None, Some, ℤ, refl, ◌∙◌, arith}
use Rattle.std.specs.Prelude.{◌||◌}
use Rattle.std.specs.Str.{chars}
use Rattle.std.proofs.lemmas.Str.{chars-nil}
use Rattle.geom.specs.Device.{PixelValue}
use Rattle.mapdefs.specs.declared.font.FontFields.{FontFields}
use Rattle.mapdefs.specs.declared.font.Glyph.{Glyph}
use Rattle.bdffont.specs.Ink.{glyph_of, advance_of, covers, character_covers, has_ink_from}

-- an empty text has no characters
pub no-chars : (bytes : List ℕ) → length bytes ≡ 0 → chars bytes ≡ []
no-chars [] h = chars-nil
no-chars (b ∷ bs) h = absurd (omega arith)

module _ (font : FontFields) (at : PixelValue) (i j : ℤ) (pen : ℕ) (characters : List ℕ) where
  -- without characters there is no ink
  pub ink-end : characters ≡ [] → has_ink_from font at i j pen characters ≡ false
  unfolding has_ink_from
  ink-end e = rw e refl

  module _ (c : ℕ) (cs : List ℕ) (e : characters ≡ c ∷ cs) where
    -- a first character, and those after it
    ink-cons : has_ink_from font at i j pen characters ≡ (character_covers font at pen i j c || has_ink_from font at i j (pen + advance_of font.glyphs c) cs)
    unfolding has_ink_from
    ink-cons = rw e refl

    -- one without a glyph
    pub ink-skip : glyph_of font.glyphs c ≡ None → has_ink_from font at i j pen characters ≡ has_ink_from font at i j pen cs
    ink-skip none = let still : pen + 0 ≡ pen = omega arith in ink-cons ∙ rw (none, still) refl

    module _ (g : Glyph) (is : glyph_of font.glyphs c ≡ Some g) where
      -- one that covers the pixel
      pub ink-here : covers font.bounds at pen i j g ≡ true → has_ink_from font at i j pen characters ≡ true
      ink-here yes' = ink-cons ∙ rw (is, yes') refl

      -- one that doesn't
      pub ink-next : covers font.bounds at pen i j g ≡ false → has_ink_from font at i j pen characters ≡ has_ink_from font at i j (pen + g.advance) cs
      ink-next no' = ink-cons ∙ rw (is, no') refl
