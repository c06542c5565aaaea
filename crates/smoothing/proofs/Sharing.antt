-- Sums that are shared among pixels.
use Rattle.std.proofs.Common.{◌≡◌, ℕ, zero, suc, ◌⊎◌, inl, inr, ◌+◌, ◌*◌, ◌/◌, ◌%◌, ◌≤◌, List, [], ◌∷◌, Option, None, Some, length, refl, arith}
use Rattle.std.proofs.Math.Nat.{div-eq_of_lt}
use Rattle.std.proofs.lemmas.List.Sums.{sum_by-cons}
use Rattle.std.specs.List.{AllByRecursion, sum_by}
use Rattle.mapdefs.specs.declared.colour.Rgb.{Rgb}
use Rattle.mapdefs.specs.declared.rgba.Rgba.{Rgba}
use Rattle.smoothing.specs.Mean.{colours_of, mean_of, nearest}
use Rattle.smoothing.specs.Shares.{AreShares}
use Rattle.smoothing.specs.declared.sums.Sums.{Sums}
use Rattle.smoothing.specs.Sums.{AreSums, HasBytes, outer_of, inner_of}

abbrev red_of : Rgb → ℕ
red_of c = c.red

abbrev green_of : Rgb → ℕ
green_of c = c.green

abbrev blue_of : Rgb → ℕ
blue_of c = c.blue

abbrev pub reds : List (Option Rgb) → ℕ
reds pixels = sum_by red_of (colours_of pixels)

abbrev pub greens : List (Option Rgb) → ℕ
greens pixels = sum_by green_of (colours_of pixels)

abbrev pub blues : List (Option Rgb) → ℕ
blues pixels = sum_by blue_of (colours_of pixels)

pub outer-parts : (pixels : List (Option Rgb)) → sum_by outer_of pixels ≡ reds pixels + 65536 * blues pixels
outer-parts [] = refl
outer-parts (None ∷ pixels) = omega (arith, sum_by-cons outer_of None pixels, outer-parts pixels)
outer-parts (Some c ∷ pixels) = omega (arith, sum_by-cons outer_of (Some c) pixels, sum_by-cons red_of c (colours_of pixels), sum_by-cons blue_of c (colours_of pixels), outer-parts pixels)

pub inner-parts : (pixels : List (Option Rgb)) → sum_by inner_of pixels ≡ greens pixels + 65536 * (255 * length (colours_of pixels))
inner-parts [] = refl
inner-parts (None ∷ pixels) = omega (arith, sum_by-cons inner_of None pixels, inner-parts pixels)
inner-parts (Some c ∷ pixels) = omega (arith, sum_by-cons inner_of (Some c) pixels, sum_by-cons green_of c (colours_of pixels), inner-parts pixels)

pub few-reds : (pixels : List (Option Rgb)) → AllByRecursion HasBytes pixels → reds pixels ≤ 255 * length (colours_of pixels)
few-reds [] h = omega arith
few-reds (None ∷ pixels) h = few-reds pixels h.1
few-reds (Some c ∷ pixels) h = omega (arith, h.0.red, sum_by-cons red_of c (colours_of pixels), few-reds pixels h.1)

pub few-greens : (pixels : List (Option Rgb)) → AllByRecursion HasBytes pixels → greens pixels ≤ 255 * length (colours_of pixels)
few-greens [] h = omega arith
few-greens (None ∷ pixels) h = few-greens pixels h.1
few-greens (Some c ∷ pixels) h = omega (arith, h.0.green, sum_by-cons green_of c (colours_of pixels), few-greens pixels h.1)

pub few-blues : (pixels : List (Option Rgb)) → AllByRecursion HasBytes pixels → blues pixels ≤ 255 * length (colours_of pixels)
few-blues [] h = omega arith
few-blues (None ∷ pixels) h = few-blues pixels h.1
few-blues (Some c ∷ pixels) h = omega (arith, h.0.blue, sum_by-cons blue_of c (colours_of pixels), few-blues pixels h.1)

pub few-colours : (pixels : List (Option Rgb)) → length (colours_of pixels) ≤ length pixels
few-colours [] = omega arith
few-colours (None ∷ pixels) = omega (arith, few-colours pixels)
few-colours (Some c ∷ pixels) = omega (arith, few-colours pixels)

-- the four channels in sums of at most sixteen pixels
pub record Channels (pixels : List (Option Rgb)) (s : Sums) : Type 0 where
  pub red : s.outer % 65536 ≡ reds pixels
  pub green : s.inner % 65536 ≡ greens pixels
  pub blue : s.outer / 65536 ≡ blues pixels
  pub alpha : s.inner / 65536 ≡ 255 * length (colours_of pixels)

pub channels : (pixels : List (Option Rgb)) (s : Sums) → length pixels ≤ 16 → AreSums pixels s → Channels pixels s
channels pixels s few are =
    let a = outer-parts pixels in
    let b = inner-parts pixels in
    let r = few-reds pixels are.bytes in
    let g = few-greens pixels are.bytes in
    let n = few-colours pixels in
    record {
      red = omega (arith, are.outer);
      green = omega (arith, are.inner);
      blue = omega (arith, are.outer);
      alpha = omega (arith, are.inner);
    }

-- what is shared by the colours, and the alpha by all pixels
abbrev pub shared : Sums → ℕ → ℕ → Rgba
shared s colours count = record {
  red = nearest (s.outer % 65536) colours;
  green = nearest (s.inner % 65536) colours;
  blue = nearest (s.outer / 65536) colours;
  alpha = nearest (s.inner / 65536) count;
}

pub nearest-none : (n : ℕ) → nearest 0 n ≡ 0
nearest-none zero = refl
nearest-none (suc n) = div-eq_of_lt (omega arith)

shared-is : (pixels : List (Option Rgb)) (s : Sums) (colours count : ℕ) → Channels pixels s → colours ≡ length (colours_of pixels) → length pixels ≡ count → shared s colours count ≡ mean_of pixels
unfolding mean_of
shared-is pixels s colours count c few all = rw (c.red, c.green, c.blue, c.alpha, few, ← all) refl

shared-none : (pixels : List (Option Rgb)) (s : Sums) (count : ℕ) → AreSums pixels s → Channels pixels s → length (colours_of pixels) ≡ 0 → shared s count count ≡ mean_of pixels
unfolding mean_of
shared-none pixels s count are c none =
    let r : reds pixels ≡ 0 = omega (arith, few-reds pixels are.bytes, none) in
    let g : greens pixels ≡ 0 = omega (arith, few-greens pixels are.bytes, none) in
    let b : blues pixels ≡ 0 = omega (arith, few-blues pixels are.bytes, none) in
    rw (c.red, c.green, c.blue, c.alpha, r, g, b, none, nearest-none count, nearest-none (length pixels)) refl

pub whole-mean : (pixels : List (Option Rgb)) (s : Sums) (count : ℕ) → count ≤ 16 → length pixels ≡ count → AreSums pixels s → (s.inner / 65536 ≡ 0) ⊎ (s.inner / 65536 ≡ 255 * count) →
    shared s count count ≡ mean_of pixels
whole-mean pixels s count few all are (inl none) =
    let c = channels pixels s (omega arith) are in
    shared-none pixels s count are c (omega (arith, c.alpha))
whole-mean pixels s count few all are (inr each) =
    let c = channels pixels s (omega arith) are in
    shared-is pixels s count count c (omega (arith, c.alpha)) all

pub part-mean : (pixels : List (Option Rgb)) (s : Sums) (count : ℕ) → count ≤ 16 → length pixels ≡ count → AreSums pixels s → shared s (s.inner / 65536 / 255) count ≡ mean_of pixels
part-mean pixels s count few all are =
    let c = channels pixels s (omega arith) are in
    shared-is pixels s (s.inner / 65536 / 255) count c (omega (arith, c.alpha)) all

-- the sums of some pixels can be shared among them
pub are-shares : (pixels : List (Option Rgb)) (s : Sums) (count : ℕ) → count ≤ 16 → length pixels ≡ count → AreSums pixels s → AreShares count s
are-shares pixels s count few all are =
    let c = channels pixels s (omega arith) are in
    let r = few-reds pixels are.bytes in
    let g = few-greens pixels are.bytes in
    let b = few-blues pixels are.bytes in
    let n = few-colours pixels in
    record {
      whole = omega (arith, c.alpha);
      most = omega (arith, c.alpha);
      red = omega (arith, c.red, c.alpha);
      green = omega (arith, c.green, c.alpha);
      blue = omega (arith, c.blue, c.alpha);
    }
