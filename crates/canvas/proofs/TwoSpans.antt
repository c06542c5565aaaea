-- Rows of two spans.
use Rattle.std.proofs.Common.{◌≡◌, ◌∙◌, ℕ, zero, suc, ◌+◌, ◌*◌, ◌/◌, ◌%◌, ◌<◌, ◌≤◌, Bool, ◌||◌, All, [], ◌∷◌, get_or, if◌then◌else◌, length, Option, sym, ap, arith}
use Rattle.std.proofs.Math.Bool.{or-false}
use Rattle.std.proofs.lemmas.Nat.{mod_below}
use Rattle.mapdefs.specs.declared.colour.Rgb.{Rgb}
use Rattle.mapdefs.specs.declared.picture.PictureFields.{PictureFields}
use Rattle.scanfill.specs.Runs.{has_column, is_in_spans}
use Rattle.scanfill.specs.declared.span.Span.{Span}
use Rattle.canvas.specs.Painted.{HasRowsFilled, colour_of}
use Rattle.canvas.proofs.Filling.{some-columns}

-- both spans are within a row
pub two-within : (left right : Span) (width : ℕ) → left.from ≤ left.to → left.to ≤ width → right.from ≤ right.to → right.to ≤ width →
    All (λ (span : Span). (span.from ≤ span.to) × (span.to ≤ width)) (left ∷ right ∷ [])
two-within left right width order most order' most' = λ k d h. each k d h
  where
    each : (k : ℕ) (d : Span) → k < 2 → ((get_or (left ∷ right ∷ []) k d).from ≤ (get_or (left ∷ right ∷ []) k d).to) × ((get_or (left ∷ right ∷ []) k d).to ≤ width)
    each zero d h = (order, most)
    each (suc zero) d h = (order', most')
    each (suc (suc k)) d h = absurd (omega arith)

-- a row is filled by a test that passes in the columns of both
pub two-filled : (test : ℕ → ℕ → Bool) (colour : ℕ → ℕ → Option Rgb) (left right : Span) (j : ℕ) (a b : PictureFields) → length a.pixels ≡ a.width * a.height →
    ((i : ℕ) → i < a.width → (has_column left i || has_column right i) ≡ test i j) → HasRowsFilled (λ i k. is_in_spans (left ∷ right ∷ []) i) colour j (j + 1) a b →
    HasRowsFilled test colour j (j + 1) a b
two-filled test colour left right j a b area all f = record {
  width = f.width;
  height = f.height;
  area = f.area;
  rows = record {
    filled = λ at h low high.
        let here : at / a.width ≡ j = omega arith in
        let i : ℕ = at % a.width in
        let below : i < a.width = mod_below at a.width (some-columns at a.width a.height (omega (arith, area))) in
        let tests : is_in_spans (left ∷ right ∷ []) i ≡ test i (at / a.width) =
        ap (λ t. has_column left i || t) (or-false (has_column right i)) ∙ (all i below ∙ ap (λ n. test i n) (sym here)) in
        f.rows.filled at h low high ∙ ap (λ t. if t then colour i (at / a.width) else colour_of a.pixels at) tests;
    before = f.rows.before;
    after = f.rows.after;
  };
}
