-- Painting the ink of labels.
use Rattle.std.proofs.Common.{◌≡◌, ◌∙◌, ℕ, List, [], ◌∷◌, length, None, Some, refl, sym, ap}
use Rattle.std.specs.Prelude.{◌==◌, false}
use Rattle.std.specs.List.{flat_map, list_any}
use Rattle.geom.specs.Device.{PixelValue}
use Rattle.mapdefs.specs.Fonts.{label_font}
use Rattle.mapdefs.specs.declared.label.LabelFields.{LabelFields}
use Rattle.viewport.specs.View.{ViewValue}
use Rattle.compose.specs.Anchor.{shown_anchor}
use Rattle.compose.specs.Walk.{ClassifiedFeatureValue}
use lib.IntN.{pos}
use Rattle.labelcache.specs.Candidate.{CandidateValue}
use Rattle.labelcache.specs.Placement.{IsPlacement, setting}
use Rattle.labelcache.specs.declared.cache.Placed.{Placed}
use Rattle.labelink.proofs.Inked.{ink-is-of-glyphs, outline-of-glyphs}
use Rattle.labelink.specs.Ink.{GlyphValue, covers_glyph, glyphs_from, outlines_glyph}
use Rattle.labelink.specs.declared.reach.Reach.{Reach}
use Rattle.mapdefs.specs.declared.colour.Rgb.{Rgb}
use Rattle.mapdefs.specs.declared.font.FontFields.{FontFields}
use Rattle.mapdefs.specs.declared.picture.PictureFields.{PictureFields}
use Rattle.scene.specs.Scene.{SceneValue}
use Rattle.compose.specs.Drawn.{HasLabels}
use Rattle.compose.specs.Labels.{candidate_at, candidate_shapes, label_text, label_shapes, text_shapes, written_label, classified_candidates}
use Rattle.canvas.specs.Shapes.{Inked, Outlined, Written}
use Rattle.canvas.specs.Painted.{IsFilled, IsPainted}
use Rattle.canvas.proofs.Painting.{painted-none, painted-shape}

module _ (w : Written) (glyphs : List GlyphValue) (colour : Rgb) (a b : PictureFields) (are : glyphs ≡ glyphs_from w.font w.at 0 w.characters) where
  -- the pixels of a text's glyphs
  pub inked : IsFilled (λ i j. list_any (λ g. covers_glyph g (pos i) (pos j)) glyphs) (λ i j. Some colour) a b → IsPainted a b (Inked w colour ∷ [])
  inked filled = painted-shape (Inked w colour) (λ i j. list_any (λ g. covers_glyph g (pos i) (pos j)) glyphs) (λ i j. Some colour) a b
      (λ i j. ink-is-of-glyphs w.font w.characters w.at (pos i) (pos j) ∙ ap (λ (gs : List GlyphValue). list_any (λ g. covers_glyph g (pos i) (pos j)) gs) (sym are))
      (λ i j. refl) filled

  -- and those of their outlines
  pub outlined : (reach : Reach) → IsFilled (λ i j. list_any (λ g. outlines_glyph reach g (pos i) (pos j)) glyphs) (λ i j. Some colour) a b → IsPainted a b (Outlined w reach colour ∷ [])
  outlined reach filled = painted-shape (Outlined w reach colour) (λ i j. list_any (λ g. outlines_glyph reach g (pos i) (pos j)) glyphs) (λ i j. Some colour) a b
      (λ i j. outline-of-glyphs reach w.font w.characters w.at (pos i) (pos j) ∙ ap (λ (gs : List GlyphValue). list_any (λ g. outlines_glyph reach g (pos i) (pos j)) gs) (sym are))
      (λ i j. refl) filled

-- what is painted of a candidate is its text in the font of its label
pub text-written : (fonts : List FontFields) (c : CandidateValue) (at : PixelValue) (font : FontFields) (a b : PictureFields) → Some font ≡ label_font fonts c.label →
    IsPainted a b (text_shapes c at font) → IsPainted a b (candidate_shapes fonts c at)
text-written fonts c at font a b is painted = rw (← is) painted

-- and nothing where that isn't there
pub text-unwritten : (fonts : List FontFields) (c : CandidateValue) (at : PixelValue) (a : PictureFields) → None ≡ label_font fonts c.label → IsPainted a a (candidate_shapes fonts c at)
text-unwritten fonts c at a none = rw (← none) (painted-none a)

-- the labels of a picture are those that are placed and painted
pub labelled : (scene : SceneValue) (candidates : List CandidateValue) (labels : List Placed) (a b : PictureFields) →
    IsPlacement (setting (record { width = scene.view.width; height = scene.view.height; fonts = scene.map.fonts }) candidates) labels →
    IsPainted a b (flat_map (label_shapes scene.map.fonts candidates) labels) → HasLabels scene candidates a b
labelled scene candidates labels a b placed painted = record { labels = labels; placed = placed; painted = painted }

-- what may be placed of a feature whose class has a label in one of the fonts, which has a text and an anchor in the picture
pub candidate-is : (view : ViewValue) (fonts : List FontFields) (classified : ClassifiedFeatureValue) (label : LabelFields) (text : List ℕ) (p : PixelValue) → written_label fonts classified.class ≡ Some label →
    text ≡ label_text classified.layer classified.feature → (length text == 0) ≡ false → shown_anchor view classified.layer.kind classified.feature ≡ Some p →
    classified_candidates view fonts classified ≡ record { text = text; anchor = p; label = label; factor = view.factor } ∷ []
candidate-is view fonts classified label text p labelled written some at = rw (labelled, at, ← written) (go text some)
  where
    go : (text : List ℕ) → (length text == 0) ≡ false → candidate_at view.factor label text p ≡ record { text = text; anchor = p; label = label; factor = view.factor } ∷ []
    go [] some = absurd (cc)
    go (b ∷ bs) some = refl
