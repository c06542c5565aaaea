-- The mean of pixels that are all the same.
use Rattle.std.proofs.Common.{◌≡◌, ◌∙◌, ℕ, zero, suc, ◌+◌, ◌*◌, ◌/◌, ◌<◌, ◌≤◌, [], ◌∷◌, ◌++◌, Option, None, Some, length, map, replicate, sym, ap, refl, add-zero, mul_comm, mul_assoc, mul-zero, arith}
use Rattle.std.proofs.lemmas.List.{length-replicate}
use Rattle.std.proofs.lemmas.List.Folds.{sum_by-replicate}
use Rattle.std.proofs.lemmas.Nat.{div-mul-add, mul-le}
use Rattle.std.specs.List.{range_with_len}
use Rattle.mapdefs.specs.Alpha.{rgba_of}
use Rattle.mapdefs.specs.declared.colour.Rgb.{Rgb}
use Rattle.smoothing.specs.Fine.{pixels_in, smoothed}
use Rattle.smoothing.specs.Mean.{colours_of, mean_of, nearest}
use Rattle.smoothing.proofs.Sharing.{nearest-none}

pub nearest-same : (k c : ℕ) → 1 ≤ k → nearest (k * c) k ≡ c
nearest-same k c some =
    let order : 2 * (k * c) ≡ c * (2 * k) = sym (mul_assoc 2 k c) ∙ mul_comm (2 * k) c in
    ap (λ n. (n + k) / (2 * k)) order ∙ div-mul-add c (2 * k) k (omega arith)

colours-none : (k : ℕ) → colours_of (replicate k None) ≡ []
colours-none zero = refl
colours-none (suc k) = colours-none k

colours-same : (k : ℕ) (c : Rgb) → colours_of (replicate k (Some c)) ≡ replicate k c
colours-same zero c = refl
colours-same (suc k) c = ap (λ l. c ∷ l) (colours-same k c)

-- the mean of equal pixels is what they have
pub mean-same : (k : ℕ) (p : Option Rgb) → 1 ≤ k → mean_of (replicate k p) ≡ rgba_of p
unfolding mean_of
mean-same k None some = rw (colours-none k, nearest-none (length (replicate {A = Option Rgb} k None))) refl
mean-same k (Some c) some =
    let r = sum_by-replicate (λ (x : Rgb). x.red) k c in
    let g = sum_by-replicate (λ (x : Rgb). x.green) k c in
    let b = sum_by-replicate (λ (x : Rgb). x.blue) k c in
    let n = length-replicate k c in
    let m = length-replicate {A = Option Rgb} k (Some c) in
    let a : nearest (255 * k) k ≡ 255 = ap (λ x. nearest x k) (mul_comm 255 k) ∙ nearest-same k 255 some in
    rw (colours-same k c, r, g, b, n, m, nearest-same k c.red some, nearest-same k c.green some, nearest-same k c.blue some, a) refl

-- a run of one colour
pub run-same : (g : ℕ → Option Rgb) (colour : Option Rgb) (from count : ℕ) → ((k : ℕ) → k < count → g (from + k) ≡ colour) → map g (range_with_len from count) ≡ replicate count colour
run-same g colour from zero h = refl
run-same g colour from (suc count) h =
    let here : g from ≡ colour = ap g (sym (add-zero from)) ∙ h 0 (omega arith) in
    let rest = run-same g colour (from + 1) count (λ k l.
    let same : from + 1 + k ≡ from + suc k = omega arith in
    ap g same ∙ h (suc k) (omega arith)) in
    rw (here, rest) refl

replicate-add : (a b : ℕ) (p : Option Rgb) → replicate a p ++ replicate b p ≡ replicate (a + b) p
replicate-add zero b p = let same : b ≡ zero + b = omega arith in ap (λ n. replicate n p) same
replicate-add (suc a) b p =
    let same : suc (a + b) ≡ suc a + b = omega arith in
    ap (λ l. p ∷ l) (replicate-add a b p) ∙ ap (λ n. replicate n p) same

-- a block of one colour
pub block-same : (fine : ℕ → ℕ → Option Rgb) (colour : Option Rgb) (first n from rows : ℕ) → ((i j : ℕ) → i < n → j < rows → fine (first + i) (from + j) ≡ colour) →
    pixels_in fine first n from rows ≡ replicate (rows * n) colour
block-same fine colour first n from zero h = let none : zero ≡ zero * n = omega arith in ap (λ k. replicate k colour) none
block-same fine colour first n from (suc rows) h =
    let one = run-same (λ i. fine i from) colour first n (λ k l. ap (fine (first + k)) (sym (add-zero from)) ∙ h k 0 l (omega arith)) in
    let rest = block-same fine colour first n (from + 1) rows (λ i j a b.
    let same : from + 1 + j ≡ from + suc j = omega arith in
    ap (fine (first + i)) same ∙ h i (suc j) a (omega arith)) in
    let count : n + rows * n ≡ suc rows * n = omega arith in
    rw (one, rest) (replicate-add n (rows * n) colour ∙ ap (λ k. replicate k colour) count)

-- what is smoothed from fine pixels on
pub smoothed-from : (n : ℕ) (fine : ℕ → ℕ → Option Rgb) (column from : ℕ) → n * column ≡ from → mean_of (pixels_in fine from n 0 n) ≡ smoothed n fine column 0
unfolding smoothed
smoothed-from n fine column from e = rw (e, mul-zero n) refl

pub smoothed-same : (n : ℕ) (fine : ℕ → ℕ → Option Rgb) (colour : Option Rgb) (column from : ℕ) → 1 ≤ n → n * column ≡ from → ((i j : ℕ) → i < n → j < n → fine (from + i) j ≡ colour) → smoothed n fine column 0 ≡ rgba_of colour
smoothed-same n fine colour column from some e h =
    let all = block-same fine colour from n 0 n (λ i j a b. let same : 0 + j ≡ j = omega arith in ap (fine (from + i)) same ∙ h i j a b) in
    let many : 1 ≤ n * n = mul-le 1 1 n n some some in
    sym (smoothed-from n fine column from e) ∙ ap mean_of all ∙ mean-same (n * n) colour many
