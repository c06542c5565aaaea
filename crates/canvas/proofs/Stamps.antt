-- Stamping a pixmap row by row.
use Rattle.std.proofs.Common.{◌≡◌, ◌∙◌, suc, ℕ, ◌+◌, ◌-◌, ◌*◌, ◌/◌, ◌%◌, ◌<◌, ◌≤◌, Bool, true, false, not, if◌then◌else◌, List, ◌∷◌, Option, Some, length, refl, arith, ⊎_elim}
use Rattle.std.proofs.lemmas.Bool.{cases_lt, le-leb, lt-leb}
use Rattle.std.proofs.lemmas.Nat.{mod_below}
use lib.IntN.{pos}
use Rattle.mapdefs.specs.declared.colour.Rgb.{Rgb}
use Rattle.mapdefs.specs.declared.picture.PictureFields.{PictureFields}
use Rattle.symbols.specs.Stamp.{StampValue, covers_pixel, is_coloured, is_transparent, pixel_at, pixel_from}
use Rattle.canvas.specs.Painted.{HasRowsFilled, colour_of}
use Rattle.canvas.proofs.Filling.{some-columns}

-- what a pixel shows after a colour is put on it, if there is one
abbrev pub shown : Option Rgb → Option Rgb → Option Rgb
shown colour old = if is_coloured colour then colour else old

-- one colour of a row is put, and the others are left
pub shown-next : (first : ℕ) (x : Rgb) (rest : List Rgb) (i : ℕ) (old new : List (Option Rgb)) → colour_of new first ≡ (if is_transparent x then colour_of old first else Some x) →
    ((k : ℕ) → k < first → colour_of new k ≡ colour_of old k) → ((k : ℕ) → first < k → colour_of new k ≡ colour_of old k) →
    shown (pixel_from (first + 1) rest i) (colour_of new i) ≡ shown (pixel_from first (x ∷ rest) i) (colour_of old i)
shown-next first x rest i old new put left right = ⊎_elim
    (λ (lt : i < first). rw (lt-leb first i lt, lt-leb (first + 1) i (omega arith), left i lt) refl)
    (λ (ge : first ≤ i). ⊎_elim
    (λ (le : i < first + 1).
    let is : i ≡ first = omega arith in
    let none : i - first ≡ 0 = omega arith in
    rw (lt-leb (first + 1) i le, le-leb first i ge, none, is, put) (either (is_transparent x) (colour_of old first)))
    (λ (gt : first + 1 ≤ i).
    let further : i - first ≡ suc (i - (first + 1)) = omega arith in
    rw (le-leb (first + 1) i gt, le-leb first i ge, further, right i (omega arith)) refl)
    (cases_lt i (first + 1)))
    (cases_lt i first)
  where
    either : (t : Bool) (o : Option Rgb) → (if t then o else Some x) ≡ (if not t then Some x else o)
    either true o = refl
    either false o = refl

-- a pixel that falls into a row is covered where it has a colour
coloured : (s : StampValue) (i j : ℕ) → is_coloured (pixel_at s (pos i) (pos j)) ≡ covers_pixel s (pos i) (pos j)
unfolding covers_pixel
coloured s i j = refl

-- the pixels of a row have what falls into it
pub stamped-row : (s : StampValue) (from : ℕ) (colours : List Rgb) (j : ℕ) (a b : PictureFields) → length a.pixels ≡ a.width * a.height →
    ((i : ℕ) → i < a.width → pixel_from from colours i ≡ pixel_at s (pos i) (pos j)) →
    HasRowsFilled (λ i k. is_coloured (pixel_from from colours i)) (λ i k. pixel_from from colours i) j (j + 1) a b →
    HasRowsFilled (λ (i k : ℕ). covers_pixel s (pos i) (pos k)) (λ (i k : ℕ). pixel_at s (pos i) (pos k)) j (j + 1) a b
stamped-row s from colours j a b area all f = record {
  width = f.width;
  height = f.height;
  area = f.area;
  rows = record {
    filled = λ at h low high.
        let here : at / a.width ≡ j = omega arith in
        let below : at % a.width < a.width = mod_below at a.width (some-columns at a.width a.height (omega (arith, area))) in
        f.rows.filled at h low high ∙ rw (all (at % a.width) below, coloured s (at % a.width) j, here) refl;
    before = f.rows.before;
    after = f.rows.after;
  };
}
