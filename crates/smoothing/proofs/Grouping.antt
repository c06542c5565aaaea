-- Four pixels of a smoothed picture at once.
use Rattle.std.proofs.Common.{◌≡◌, ◌∙◌, ℕ, ◌+◌, ◌*◌, ◌<◌, ◌≤◌, List, [], ◌∷◌, Option, ap, refl, arith}
use Rattle.mapdefs.specs.Alpha.{rgba_of}
use Rattle.mapdefs.specs.declared.colour.Rgb.{Rgb}
use Rattle.smoothing.specs.Blocks.{IsBlock}
use Rattle.smoothing.specs.Columns.{AreColumns, joined}
use Rattle.smoothing.specs.Fine.{pixels_in, smoothed}
use Rattle.smoothing.specs.Mean.{mean_of}
use Rattle.smoothing.specs.Shares.{AreShares}
use Rattle.smoothing.specs.declared.sums.Sums.{Sums}
use Rattle.smoothing.proofs.Blocks.{block-length, few-pixels}
use Rattle.smoothing.proofs.Equal.{smoothed-from, smoothed-same}
use Rattle.smoothing.proofs.Sharing.{are-shares}

-- columns that are taken together are a block
pub block-joined : (fine : ℕ → ℕ → Option Rgb) (first w n : ℕ) (outer inner : List ℕ) (at from : ℕ) (s : Sums) → AreColumns fine first w n outer inner → at + n ≤ w → first + at ≡ from → s ≡ joined outer inner at n →
    IsBlock (n * n) (pixels_in fine from n 0 n) s
block-joined fine first w n outer inner at from s are within place same =
    rw (same, ← place) (record { many = block-length fine (first + at) n 0 n; sums = are.sums at n within })

pub block-shares : (n : ℕ) (pixels : List (Option Rgb)) (s : Sums) → n ≤ 4 → IsBlock (n * n) pixels s → AreShares (n * n) s
block-shares n pixels s few is = are-shares pixels s (n * n) (few-pixels n few) is.many is.sums

pub places : (n column : ℕ) → (n * (column + 1) ≡ n * column + n) × (n * (column + 2) ≡ n * column + 2 * n) × (n * (column + 3) ≡ n * column + 3 * n)
places n column = (omega arith, omega arith, omega arith)

pub four-smoothed : (n : ℕ) (fine : ℕ → ℕ → Option Rgb) (column : ℕ) →
    mean_of (pixels_in fine (n * column) n 0 n) ∷ mean_of (pixels_in fine (n * column + n) n 0 n) ∷ mean_of (pixels_in fine (n * column + 2 * n) n 0 n) ∷ mean_of (pixels_in fine (n * column + 3 * n) n 0 n) ∷ []
    ≡ smoothed n fine column 0 ∷ smoothed n fine (column + 1) 0 ∷ smoothed n fine (column + 2) 0 ∷ smoothed n fine (column + 3) 0 ∷ []
four-smoothed n fine column =
    let at = places n column in
    rw (smoothed-from n fine column (n * column) refl, smoothed-from n fine (column + 1) (n * column + n) at.0, smoothed-from n fine (column + 2) (n * column + 2 * n) at.1, smoothed-from n fine (column + 3) (n * column + 3 * n) at.2) refl

pub four-same : (n w : ℕ) (fine : ℕ → ℕ → Option Rgb) (column : ℕ) (colour : Option Rgb) → 1 ≤ n → w ≡ 4 * n → ((i j : ℕ) → i < w → j < n → fine (n * column + i) j ≡ colour) →
    rgba_of colour ∷ rgba_of colour ∷ rgba_of colour ∷ rgba_of colour ∷ [] ≡ smoothed n fine column 0 ∷ smoothed n fine (column + 1) 0 ∷ smoothed n fine (column + 2) 0 ∷ smoothed n fine (column + 3) 0 ∷ []
four-same n w fine column colour some wide h =
    let at = places n column in
    let part = λ (k from : ℕ). let made : n * column + k ≡ from → k + n ≤ w → (i j : ℕ) → i < n → j < n → fine (from + i) j ≡ colour = λ e l i j a b.
    (let same : from + i ≡ n * column + (k + i) = omega arith in ap (λ c. fine c j) same ∙ h (k + i) j (omega arith) b) in made in
    rw (
      smoothed-same n fine colour column (n * column) some refl (part 0 (n * column) (omega arith) (omega arith)),
      smoothed-same n fine colour (column + 1) (n * column + n) some at.0 (part n (n * column + n) refl (omega arith)),
      smoothed-same n fine colour (column + 2) (n * column + 2 * n) some at.1 (part (2 * n) (n * column + 2 * n) refl (omega arith)),
      smoothed-same n fine colour (column + 3) (n * column + 3 * n) some at.2 (part (3 * n) (n * column + 3 * n) refl (omega arith)),
    ) refl
