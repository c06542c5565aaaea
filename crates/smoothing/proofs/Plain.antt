-- Pixels that are all the same.
use Rattle.std.proofs.Common.{◌≡◌, ◌∙◌, ℕ, ◌+◌, ◌<◌, Bool, true, false, ◌&&◌, List, Option, None, length, get_or, sym, refl, arith}
use Rattle.std.specs.Prelude.{IsTrue}
use borrow.Author.Count.{below_more}
use Rattle.mapdefs.specs.declared.colour.Rgb.{Rgb}

-- one row more is of one colour
pub plain-more : (fine : ℕ → ℕ → Option Rgb) (first w row : ℕ) (plain same : Bool) (run : List (Option Rgb)) (colour : Option Rgb) → length run ≡ w → ((k : ℕ) → k < w → get_or run k None ≡ fine (first + k) row) →
    (IsTrue plain → (i j : ℕ) → i < w → j < row → fine (first + i) j ≡ colour) → (IsTrue same → (k : ℕ) → k < length run → get_or run k None ≡ colour) → IsTrue (plain && same) →
    (i j : ℕ) → i < w → j < row + 1 → fine (first + i) j ≡ colour
plain-more fine first w row false same run colour count at before all t = absurd (cc)
plain-more fine first w row true false run colour count at before all t = absurd (cc)
plain-more fine first w row true true run colour count at before all t = λ i j h.
    below_more (λ (k : ℕ). fine (first + i) k ≡ colour) row (λ k l. before refl i k h l) (sym (at i h) ∙ all refl i (omega arith)) j
