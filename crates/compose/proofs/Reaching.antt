-- How far the ink of a text reaches from its corner.
use Rattle.std.proofs.Common.{◌≡◌, ◌∙◌, ℕ, ◌+◌, ◌*◌, ◌/◌, ◌%◌, ◌<◌, ◌≤◌, ◌⊎◌, Bool, true, false, cond, List, [], ◌∷◌, length, Option, None, Some, refl, sym, ap, arith, subst, ⊎_elim, inl, inr, zero, suc}
use Rattle.std.proofs.Math.Logic.{∥∥₁_elim}
use Rattle.std.proofs.lemmas.Int.{ints}
use Rattle.std.proofs.lemmas.List.Elements.{All-head, All-tail}
use Rattle.std.proofs.lemmas.Nat.{div_below}
use Rattle.std.specs.List.{All, find}
use Rattle.std.specs.Option.{option_map_or, option_or}
use Rattle.std.specs.Prelude.{unsigned_abs}
use Rattle.std.specs.Str.{chars}
use lib.IntN.{ℤ, pos, neg_ℤ, ◌+ℤ◌}
use mathlib.Core.Bool.{Bool-set}
use lib.Signed.{◌<ℤ◌, ◌≤ℤ◌}
use Rattle.geom.specs.Device.{PixelValue}
use Rattle.labelcache.specs.Candidate.{CandidateValue}
use Rattle.mapdefs.specs.FontLimits.{IsFontWithinLimits, IsGlyphWithin}
use Rattle.mapdefs.specs.declared.colour.Rgb.{Rgb}
use Rattle.mapdefs.specs.declared.font.FontFields.{FontFields}
use Rattle.mapdefs.specs.declared.font.Glyph.{Glyph}
use Rattle.mapdefs.specs.declared.picture.PictureFields.{PictureFields}
use Rattle.bdffont.specs.File.{has_encoding}
use Rattle.bdffont.specs.Ink.{advance_of, bottom_of, character_covers, covers, first_row, glyph_of, has_ink, has_ink_from, left_of}
use Rattle.labelink.specs.Ink.{GlyphValue, has_outline}
use Rattle.labelink.specs.declared.reach.Reach.{Reach}
use Rattle.labelink.specs.declared.reach.Reach.TheVariants.{Neighbours, Disc}
use Rattle.labelink.proofs.Boxed.{above, below, left-of}
use Rattle.labelink.proofs.Discs.{across-within, disc-none, down-within}
use Rattle.canvas.specs.Painted.{IsPainted, colour_at, colour_of}
use Rattle.canvas.specs.Shapes.{Written}
use Rattle.canvas.specs.Shapes as shape
use Rattle.canvas.proofs.Painting.{colour_at-append, colour_at-none, colour_at-one}
use Rattle.compose.specs.Labels.{inks, outlines, reach_of, text_shapes}
use Rattle.compose.specs.Reach.{ShowsNothing, line_of, pixels_of}

-- what holds of all elements holds of the one that is found
found-of : {X : Type 0} (P : X → Type 0) (f : X → Bool) (xs : List X) (x : X) → All P xs → find f xs ≡ Some x → P x
found-of P f [] x all e = absurd (cc)
found-of P f (y ∷ ys) x all e = go (f y) e (λ is. found-of P f ys x (All-tail P y ys all) is)
  where
    go : (b : Bool) → cond b (Some y) (find f ys) ≡ Some x → (find f ys ≡ Some x → P x) → P x
    go true is later = let same : y ≡ x = cc in subst P same (All-head P y ys all)
    go false is later = later is

glyph-within : (side : ℕ) (glyphs : List Glyph) (c : ℕ) (g : Glyph) → All (IsGlyphWithin side) glyphs → glyph_of glyphs c ≡ Some g → IsGlyphWithin side g
glyph-within side glyphs c g all e = go (find (has_encoding c) glyphs) refl e
  where
    go : (o : Option Glyph) → find (has_encoding c) glyphs ≡ o → option_or o (find (has_encoding 63) glyphs) ≡ Some g → IsGlyphWithin side g
    go None is e = found-of (IsGlyphWithin side) (has_encoding 63) glyphs g all e
    go (Some h) is e = found-of (IsGlyphWithin side) (has_encoding c) glyphs g all (is ∙ e)

-- a pixel lies further from the corner than ink may reach, and so many pixels more
abbrev pub IsBeyond : ℕ → FontFields → PixelValue → ℤ → ℤ → Type 0
IsBeyond more font at i j =
    ((i +ℤ pos (font.side + more)) <ℤ at.i) ⊎ (((j +ℤ pos (2 * font.side + more)) <ℤ line_of font.bounds at) ⊎ ((line_of font.bounds at +ℤ pos (font.side + more)) ≤ℤ j))

module _ (font : FontFields) (at : PixelValue) (all : All (IsGlyphWithin font.side) font.glyphs) where
  glyph-beyond : (i j : ℤ) → IsBeyond 0 font at i j → (pen : ℕ) (g : Glyph) → IsGlyphWithin font.side g → covers font.bounds at pen i j g ≡ false
  glyph-beyond i j far pen g limits =
      let placed : GlyphValue = record { glyph = g; left = left_of at.i pen g.bounds; top = first_row (bottom_of at.j font.bounds g.bounds) g.bounds.height } in
      ⊎_elim
      (λ (h : (i +ℤ pos (font.side + 0)) <ℤ at.i). left-of placed i j (omega (arith, ints, h, limits.bounds.right.least)))
      (⊎_elim
      (λ (h : (j +ℤ pos (2 * font.side + 0)) <ℤ line_of font.bounds at). above placed i j (omega (arith, ints, h, limits.bounds.up.most, limits.bounds.rows)))
      (λ (h : (line_of font.bounds at +ℤ pos (font.side + 0)) ≤ℤ j). below placed i j (omega (arith, ints, h, limits.bounds.up.least))))
      far

  character-beyond : (i j : ℤ) → IsBeyond 0 font at i j → (pen c : ℕ) → character_covers font at pen i j c ≡ false
  character-beyond i j far pen c = go (glyph_of font.glyphs c) refl
    where
      go : (o : Option Glyph) → glyph_of font.glyphs c ≡ o → option_map_or (covers font.bounds at pen i j) o false ≡ false
      go None is = refl
      go (Some g) is = glyph-beyond i j far pen g (glyph-within font.side font.glyphs c g all is)

  ink-beyond : (i j : ℤ) → IsBeyond 0 font at i j → (pen : ℕ) (cs : List ℕ) → has_ink_from font at i j pen cs ≡ false
  unfolding has_ink_from
  ink-beyond i j far pen [] = refl
  ink-beyond i j far pen (c ∷ cs) = rw (character-beyond i j far pen c, ink-beyond i j far (pen + advance_of font.glyphs c) cs) refl

  nearer : (more : ℕ) (i j di dj : ℤ) → unsigned_abs di ≤ more → unsigned_abs dj ≤ more → IsBeyond more font at i j → IsBeyond 0 font at (i +ℤ di) (j +ℤ dj)
  nearer more i j di dj a b far =
      ⊎_elim
      (λ (h : (i +ℤ pos (font.side + more)) <ℤ at.i). inl (omega (arith, ints, h, a)))
      (⊎_elim
      (λ (h : (j +ℤ pos (2 * font.side + more)) <ℤ line_of font.bounds at). inr (inl (omega (arith, ints, h, b))))
      (λ (h : (line_of font.bounds at +ℤ pos (font.side + more)) ≤ℤ j). inr (inr (omega (arith, ints, h, b)))))
      far

  outline-beyond : (reach : Reach) (characters : List ℕ) (i j : ℤ) → IsBeyond (pixels_of reach) font at i j → has_outline reach font characters at i j ≡ false
  outline-beyond (Disc r) characters i j far = disc-none (λ step. has_ink font characters at (i +ℤ step.i) (j +ℤ step.j)) r
      (λ across down within.
      ink-beyond (i +ℤ across) (j +ℤ down) (nearer r i j across down (across-within r across down within) (down-within r across down within) far) 0 characters)
  outline-beyond Neighbours characters i j far =
      let back = neg_ℤ (pos 1) in
      let none = λ (di dj : ℤ) (a : unsigned_abs di ≤ 1) (b : unsigned_abs dj ≤ 1). ink-beyond (i +ℤ di) (j +ℤ dj) (nearer 1 i j di dj a b far) 0 characters in
      let low : unsigned_abs back ≤ 1 = omega (arith, ints) in
      let middle : unsigned_abs (pos 0) ≤ 1 = omega (arith, ints) in
      let high : unsigned_abs (pos 1) ≤ 1 = omega (arith, ints) in
      rw (
        none back back low low,
        none (pos 0) back middle low,
        none (pos 1) back high low,
        none back (pos 0) low middle,
        none (pos 1) (pos 0) high middle,
        none back (pos 1) low high,
        none (pos 0) (pos 1) middle high,
        none (pos 1) (pos 1) high high,
      ) refl

-- a text in a font within the limits shows nothing on a picture that lies left of its corner by more than that, or above or below its line
pub shows-nothing : (font : FontFields) (reach : Reach) (at : PixelValue) (width height : ℕ) → IsFontWithinLimits font →
    ((pos width +ℤ pos (font.side + pixels_of reach)) ≤ℤ at.i) ⊎ (((pos height +ℤ pos (2 * font.side + pixels_of reach)) ≤ℤ line_of font.bounds at) ⊎ ((line_of font.bounds at +ℤ pos (font.side + pixels_of reach)) ≤ℤ pos 0)) →
    ShowsNothing font reach at width height
shows-nothing font reach at width height limits off characters i j left up =
    let far : IsBeyond (pixels_of reach) font at (pos i) (pos j) =
    ⊎_elim
    (λ (h : (pos width +ℤ pos (font.side + pixels_of reach)) ≤ℤ at.i). inl (omega (arith, ints, h, left)))
    (⊎_elim
    (λ (h : (pos height +ℤ pos (2 * font.side + pixels_of reach)) ≤ℤ line_of font.bounds at). inr (inl (omega (arith, ints, h, up))))
    (λ (h : (line_of font.bounds at +ℤ pos (font.side + pixels_of reach)) ≤ℤ pos 0). inr (inr (omega (arith, ints, h)))))
    off in
    let still : IsBeyond 0 font at (pos i) (pos j) =
    ⊎_elim
    (λ (h : (pos i +ℤ pos (font.side + pixels_of reach)) <ℤ at.i). inl (omega (arith, ints, h)))
    (⊎_elim
    (λ (h : (pos j +ℤ pos (2 * font.side + pixels_of reach)) <ℤ line_of font.bounds at). inr (inl (omega (arith, ints, h))))
    (λ (h : (line_of font.bounds at +ℤ pos (font.side + pixels_of reach)) ≤ℤ pos j). inr (inr (omega (arith, ints, h)))))
    far in (
      ∥∥₁_elim limits.each (Bool-set _ _) (λ (all : All (IsGlyphWithin font.side) font.glyphs). ink-beyond font at all (pos i) (pos j) still 0 characters),
      ∥∥₁_elim limits.each (Bool-set _ _) (λ (all : All (IsGlyphWithin font.side) font.glyphs). outline-beyond font at all reach characters (pos i) (pos j) far),
    )

-- the same of a font that is read, by each of the three tests
pub right-of-all : (font read : FontFields) (reach : Reach) (at : PixelValue) (width height : ℕ) (i : ℤ) → read ≡ font → IsFontWithinLimits read → i ≡ at.i → (pos width +ℤ pos (read.side + pixels_of reach)) ≤ℤ i →
    ShowsNothing font reach at width height
right-of-all font read reach at width height i same limits is h = rw (← same) (shows-nothing read reach at width height limits (inl (rw is at h)))

pub below-all : (font read : FontFields) (reach : Reach) (at : PixelValue) (width height : ℕ) (line : ℤ) → read ≡ font → IsFontWithinLimits read → line ≡ line_of read.bounds at →
    (pos height +ℤ pos (2 * read.side + pixels_of reach)) ≤ℤ line → ShowsNothing font reach at width height
below-all font read reach at width height line same limits is h = rw (← same) (shows-nothing read reach at width height limits (inr (inl (rw is at h))))

pub above-all : (font read : FontFields) (reach : Reach) (at : PixelValue) (width height : ℕ) (line : ℤ) → read ≡ font → IsFontWithinLimits read → line ≡ line_of read.bounds at →
    line ≤ℤ neg_ℤ (pos (read.side + pixels_of reach)) → ShowsNothing font reach at width height
above-all font read reach at width height line same limits is h =
    let high : (line +ℤ pos (read.side + pixels_of reach)) ≤ℤ pos 0 = omega (arith, ints, h) in
    rw (← same) (shows-nothing read reach at width height limits (inr (inr (rw is at high))))

-- what isn't seen leaves a pixel as it is
outline-unseen : (background : Option Rgb) (w : Written) (reach : Reach) (colour : Option Rgb) (i j : ℕ) → has_outline reach w.font w.characters w.at (pos i) (pos j) ≡ false →
    colour_at background (outlines w reach colour) i j ≡ background
outline-unseen background w reach None i j none = colour_at-none background i j
outline-unseen background w reach (Some colour) i j none = colour_at-one background (shape.Outlined w reach colour) i j ∙ rw none refl

ink-unseen : (background : Option Rgb) (w : Written) (colour : Option Rgb) (i j : ℕ) → has_ink w.font w.characters w.at (pos i) (pos j) ≡ false → colour_at background (inks w colour) i j ≡ background
ink-unseen background w None i j none = colour_at-none background i j
ink-unseen background w (Some colour) i j none = colour_at-one background (shape.Inked w colour) i j ∙ rw none refl

text-unseen : (background : Option Rgb) (font : FontFields) (c : CandidateValue) (at : PixelValue) (width height i j : ℕ) → ShowsNothing font (reach_of c) at width height → i < width → j < height →
    colour_at background (text_shapes c at font) i j ≡ background
text-unseen background font c at width height i j none left up =
    let w : Written = record { font = font; characters = chars c.text; at = at } in
    let both = none (chars c.text) i j left up in
    colour_at-append background (outlines w (reach_of c) c.label.outline) (inks w c.label.colour) i j
    ∙ ap (λ (z : Option Rgb). colour_at z (inks w c.label.colour) i j) (outline-unseen background w (reach_of c) c.label.outline i j both.1)
    ∙ ink-unseen background w c.label.colour i j both.0

column-below : (at w : ℕ) → 0 < w → at % w < w
column-below at w some = omega arith

some-column : (at w h : ℕ) → at < w * h → 0 < w
some-column at zero h below = absurd (omega arith)
some-column at (suc w) h below = omega arith

-- a picture on which a candidate's text shows nothing is painted over with it, and stays as it is
pub unseen-painted : (font : FontFields) (c : CandidateValue) (at : PixelValue) (a : PictureFields) → length a.pixels ≡ a.width * a.height →
    ShowsNothing font (reach_of c) at a.width a.height → IsPainted a a (text_shapes c at font)
unseen-painted font c at a area none = record {
  width = refl;
  height = refl;
  area = refl;
  pixels = λ k h.
      let below : k < a.width * a.height = omega (arith, area, h) in
      let some = some-column k a.width a.height below in
      sym (text-unseen (colour_of a.pixels k) font c at a.width a.height (k % a.width) (k / a.width) none (column-below k a.width some) (div_below k a.width a.height some (omega (arith, below))));
}
