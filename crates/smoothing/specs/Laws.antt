-- What holds of means (docs/DRAWING.md, "Smoothing").
use Rattle.std.specs.Prelude.{◌≡◌, ℕ, ◌+◌, ◌*◌, ◌<◌, ◌≤◌, ◌↔◌, List, length, replicate, Option, None, IsSome}
use Rattle.std.specs.List.{AllByRecursion}
use Rattle.std.specs.List.Sorted.{IsPermutation}
use Rattle.mapdefs.specs.Alpha.{rgba_of}
use Rattle.mapdefs.specs.declared.colour.Rgb.{Rgb}
use Rattle.smoothing.specs.Fine.{smoothed}
use Rattle.smoothing.specs.Mean.{colours_of, mean_of, nearest}

-- the quotient of a total and a count, rounded to the nearest: no further from it than a half; a half is rounded up
pub record IsNearest (total count q : ℕ) : Type 0 where
  pub at_most : 2 * (q * count) ≤ 2 * total + count
  pub above : 2 * total < 2 * (q * count) + count

abbrev pub SharesAreNearest : Type 0
SharesAreNearest = (total count : ℕ) → 1 ≤ count → IsNearest total count (nearest total count)

-- the mean of equal pixels is what they have
abbrev pub EqualPixelsStay : Type 0
EqualPixelsStay = (count : ℕ) (p : Option Rgb) → 1 ≤ count → mean_of (replicate count p) ≡ rgba_of p

-- the factor 1 changes nothing
abbrev pub OneChangesNothing : Type 0
OneChangesNothing = (fine : ℕ → ℕ → Option Rgb) (i j : ℕ) → smoothed 1 fine i j ≡ rgba_of (fine i j)

-- three channels lie between those of two colours
pub record LieBetween (low high : Rgb) (red green blue : ℕ) : Type 0 where
  pub least_red : low.red ≤ red
  pub least_green : low.green ≤ green
  pub least_blue : low.blue ≤ blue
  pub most_red : red ≤ high.red
  pub most_green : green ≤ high.green
  pub most_blue : blue ≤ high.blue

-- each channel of a mean lies between the least and the greatest of the colours
abbrev pub MeansLieBetween : Type 0
MeansLieBetween = (pixels : List (Option Rgb)) (low high : Rgb) → 1 ≤ length (colours_of pixels) →
    AllByRecursion (λ (c : Rgb). LieBetween low high c.red c.green c.blue) (colours_of pixels) →
    LieBetween low high (mean_of pixels).red (mean_of pixels).green (mean_of pixels).blue

-- the order of the pixels doesn't matter
abbrev pub OrderDoesNotMatter : Type 0
OrderDoesNotMatter = (a b : List (Option Rgb)) → IsPermutation a b → mean_of a ≡ mean_of b

-- nothing is seen exactly where no pixel has a colour, and nothing behind exactly where each has one
pub record HasShare (pixels : List (Option Rgb)) (alpha : ℕ) : Type 0 where
  pub clear : (alpha ≡ 0) ↔ AllByRecursion (λ p. p ≡ None) pixels
  pub opaque : (alpha ≡ 255) ↔ AllByRecursion IsSome pixels

abbrev pub AlphasAreShares : Type 0
AlphasAreShares = (pixels : List (Option Rgb)) → 1 ≤ length pixels → length pixels ≤ 255 → HasShare pixels (mean_of pixels).alpha
