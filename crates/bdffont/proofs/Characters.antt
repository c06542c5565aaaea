-- A text has ink where one of its characters has.
use Rattle.std.proofs.Common.{◌≡◌, ℕ, ◌+◌, Bool, true, false, List, [], ◌∷◌, ◌++◌, ℤ, refl, sym, ◌∙◌, ap, arith}
use Rattle.std.specs.Prelude.{◌||◌}
use Rattle.std.proofs.lemmas.List.Sums.{sum_by-cons}
use Rattle.geom.specs.Device.{PixelValue}
use Rattle.mapdefs.specs.declared.font.FontFields.{FontFields}
use Rattle.bdffont.specs.Ink.{advance_of, text_width, character_covers, has_ink_from, InkIsOfACharacter}

-- ink of a first character, or of those after it
module _ (font : FontFields) (at : PixelValue) (i j : ℤ) where
  record InksFrom (pen : ℕ) (characters : List ℕ) : Type 0 where
    before : List ℕ
    character : ℕ
    after : List ℕ
    whole : characters ≡ before ++ (character ∷ after)
    covers : character_covers font at (pen + text_width font.glyphs before) i j character ≡ true

  inks-later : (pen c : ℕ) (cs : List ℕ) → InksFrom (pen + advance_of font.glyphs c) cs → InksFrom pen (c ∷ cs)
  inks-later pen c cs later = record {
    before = c ∷ later.before;
    character = later.character;
    after = later.after;
    whole = ap (λ l. c ∷ l) later.whole;
    covers =
        let further : pen + text_width font.glyphs (c ∷ later.before) ≡ pen + advance_of font.glyphs c + text_width font.glyphs later.before = omega (arith, sum_by-cons (advance_of font.glyphs) c later.before) in
        ap (λ n. character_covers font at n i j later.character) further ∙ later.covers;
  }

  inks-if : (pen c : ℕ) (cs : List ℕ) (here : Bool) → character_covers font at pen i j c ≡ here → (has_ink_from font at i j (pen + advance_of font.glyphs c) cs ≡ true → InksFrom (pen + advance_of font.glyphs c) cs) →
      (here || has_ink_from font at i j (pen + advance_of font.glyphs c) cs) ≡ true → InksFrom pen (c ∷ cs)
  inks-if pen c cs true e later h = record {
    before = [];
    character = c;
    after = cs;
    whole = refl;
    covers = (let still : pen + 0 ≡ pen = omega arith in ap (λ n. character_covers font at n i j c) still ∙ e);
  }
  inks-if pen c cs false e later h = inks-later pen c cs (later h)

  inks-to : (pen : ℕ) (characters : List ℕ) → has_ink_from font at i j pen characters ≡ true → InksFrom pen characters
  unfolding has_ink_from
  inks-to pen [] h = absurd cc
  inks-to pen (c ∷ cs) h = inks-if pen c cs (character_covers font at pen i j c) refl (inks-to (pen + advance_of font.glyphs c) cs) h

  or-later : (a b : Bool) → b ≡ true → (a || b) ≡ true
  or-later true b h = refl
  or-later false b h = h

  or-here : (a b : Bool) → a ≡ true → (a || b) ≡ true
  or-here true b h = refl
  or-here false b h = absurd cc

  inks-back : (pen : ℕ) (before : List ℕ) (c : ℕ) (after : List ℕ) → character_covers font at (pen + text_width font.glyphs before) i j c ≡ true → has_ink_from font at i j pen (before ++ (c ∷ after)) ≡ true
  unfolding has_ink_from
  inks-back pen [] c after h = let still : pen + 0 ≡ pen = omega arith in or-here _ _ (ap (λ n. character_covers font at n i j c) (sym still) ∙ h)
  inks-back pen (b ∷ bs) c after h =
      let further : pen + advance_of font.glyphs b + text_width font.glyphs bs ≡ pen + text_width font.glyphs (b ∷ bs) = omega (arith, sum_by-cons (advance_of font.glyphs) b bs) in
      or-later _ _ (inks-back (pen + advance_of font.glyphs b) bs c after (ap (λ n. character_covers font at n i j c) further ∙ h))

pub ink-is-of-a-character : InkIsOfACharacter
ink-is-of-a-character font characters at i j = (
  λ h. let inks = inks-to font at i j 0 characters h in
      let nothing : 0 + text_width font.glyphs inks.before ≡ text_width font.glyphs inks.before = omega arith in
      record {
        before = inks.before;
        character = inks.character;
        after = inks.after;
        whole = inks.whole;
        covers = ap (λ n. character_covers font at n i j inks.character) (sym nothing) ∙ inks.covers;
      },
  λ inks. let nothing : 0 + text_width font.glyphs inks.before ≡ text_width font.glyphs inks.before = omega arith in
      ap (has_ink_from font at i j 0) inks.whole ∙ inks-back font at i j 0 inks.before inks.character inks.after (ap (λ n. character_covers font at n i j inks.character) nothing ∙ inks.covers),
)
