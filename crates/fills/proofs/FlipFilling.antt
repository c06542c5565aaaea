-- Filling the spans between sorted flips.
use Rattle.std.proofs.Common.{Option, Some, ◌≡◌, ◌∙◌, ℕ, ◌+◌, ◌*◌, ◌/◌, ◌%◌, ◌<◌, Bool, ◌||◌, cond, List, [], ◌∷◌, length, refl, sym, ap, arith, inl, inr}
use Rattle.std.proofs.Math.Bool.{or-false}
use Rattle.std.proofs.lemmas.Bool.{cases_order, eq-eqb, ne_eqb}
use Rattle.std.proofs.lemmas.Nat.{div_below, mod_below}
use Rattle.mapdefs.specs.declared.colour.Rgb.{Rgb}
use Rattle.mapdefs.specs.declared.picture.PictureFields.{PictureFields}
use Rattle.scanfill.specs.Runs.{has_column, is_in_spans}
use Rattle.scanfill.specs.Flips.{has_pixel, is_pixel_flipped}
use Rattle.scanfill.specs.declared.row_spans.RowSpan.{RowSpan}
use Rattle.scanfill.specs.declared.span.Span.{Span}
use Rattle.canvas.specs.Shapes.{PaintedShape, covers, colour_in}
use Rattle.canvas.specs.Painted.{HasRowsFilled, IsFilled, IsPainted, colour_of}
use Rattle.canvas.proofs.Filling.{cond-either, some-columns}
use Rattle.canvas.proofs.Painting.{colour_at-one}
use Rattle.fills.proofs.Sweeping.{one_colour}

-- filling the pixels that lie inside by the remaining flips fills all that lie inside
pub record IsFilling (flips left : List ℕ) (colour : Rgb) (a b : PictureFields) : Type 0 where
  pub width : b.width ≡ a.width
  pub height : b.height ≡ a.height
  pub area : length b.pixels ≡ length a.pixels
  pub pixels : (at : ℕ) → at < length a.pixels →
      cond (is_pixel_flipped left (at % a.width) (at / a.width)) (Some colour) (colour_of b.pixels at)
      ≡ cond (is_pixel_flipped flips (at % a.width) (at / a.width)) (Some colour) (colour_of a.pixels at)

-- the columns of a span
abbrev pub columns-of : RowSpan → Span
columns-of span = record { from = span.from; to = span.to }

-- a span's pixels are those of its columns in its row
span-filled : (span : RowSpan) (colour : Rgb) (b c : PictureFields) → HasRowsFilled (λ i k. is_in_spans (columns-of span ∷ []) i) (one_colour colour) span.row (span.row + 1) b c →
    (at : ℕ) → at < length b.pixels → colour_of c.pixels at ≡ cond (has_pixel span (at % b.width) (at / b.width)) (Some colour) (colour_of b.pixels at)
span-filled span colour b c f at h = elim (cases_order (at / b.width) span.row) [
  | inl same ↦
      f.rows.filled at h (omega (arith, same)) (omega (arith, same))
      ∙ rw (eq-eqb (at / b.width) span.row same, or-false (has_column (columns-of span) (at % b.width))) refl
  | inr (inl above) ↦ f.rows.before at h above ∙ rw (ne_eqb (at / b.width) span.row (λ e. omega (arith, e, above))) refl
  | inr (inr below) ↦ f.rows.after at h (omega arith) ∙ rw (ne_eqb (at / b.width) span.row (λ e. omega (arith, e, below))) refl
]

-- one more span
pub filling-next : (flips left rest : List ℕ) (span : RowSpan) (colour : Rgb) (a b c : PictureFields) → length b.pixels ≡ b.width * b.height →
    ((i j : ℕ) → i < b.width → is_pixel_flipped left i j ≡ (has_pixel span i j || is_pixel_flipped rest i j)) → IsFilling flips left colour a b →
    HasRowsFilled (λ i k. is_in_spans (columns-of span ∷ []) i) (one_colour colour) span.row (span.row + 1) b c → IsFilling flips rest colour a c
filling-next flips left rest span colour a b c area flipped is f = record {
  width = f.width ∙ is.width;
  height = f.height ∙ is.height;
  area = f.area ∙ is.area;
  pixels = λ at h.
      let inside : at < length b.pixels = omega (arith, h, is.area) in
      let column : at % b.width < b.width = mod_below at b.width (some-columns at b.width b.height (omega (arith, inside, area))) in
      let s = has_pixel span (at % b.width) (at / b.width) in
      let t = is_pixel_flipped rest (at % b.width) (at / b.width) in
      rw (← is.width)
      (ap (λ x. cond t (Some colour) x) (span-filled span colour b c f at inside)
      ∙ (cond-either s t (Some colour) (colour_of b.pixels at)
      ∙ (ap (λ x. cond x (Some colour) (colour_of b.pixels at)) (sym (flipped (at % b.width) (at / b.width) column))
      ∙ rw (← is.width) at (is.pixels at h))));
}

-- a picture that is filled where a shape covers its pixels is painted over with the shape
pub painted-within : (shape : PaintedShape) (test : ℕ → ℕ → Bool) (colour : ℕ → ℕ → Option Rgb) (a b : PictureFields) → length a.pixels ≡ a.width * a.height →
    ((i j : ℕ) → i < a.width → j < a.height → covers shape i j ≡ test i j) →
    ((i j : ℕ) → colour_in shape i j ≡ colour i j) → IsFilled test colour a b → IsPainted a b (shape ∷ [])
painted-within shape test colour a b area same shown f = record {
  width = f.width;
  height = f.height;
  area = f.area;
  pixels = λ at h.
      let some = some-columns at a.width a.height (omega (arith, h, area)) in
      f.filled at h
      ∙ sym (colour_at-one (colour_of a.pixels at) shape (at % a.width) (at / a.width)
      ∙ rw (same (at % a.width) (at / a.width) (mod_below at a.width some) (div_below at a.width a.height some (omega (arith, h, area))), shown (at % a.width) (at / a.width)) refl);
}
