-- The laws of means.
use Rattle.std.proofs.Common.{◌≡◌, ◌∙◌, ℕ, suc, ◌+◌, ◌*◌, ◌<◌, ◌≤◌, true, false, List, [], ◌∷◌, Option, None, Some, length, sym, ap, refl, one-mul, mul_comm, mul_assoc, arith}
use Rattle.std.proofs.Math.Nat.{mul-div-le, lt-mul-div-succ}
use Rattle.std.proofs.lemmas.List.Sorted.{sum_by-IsPermutation}
use Rattle.std.proofs.lemmas.List.Sums.{sum_by-cons}
use Rattle.std.proofs.lemmas.Nat.{div_below, le-div}
use Rattle.std.specs.Prelude.{IsSome}
use Rattle.std.specs.List.{AllByRecursion, sum_by}
use Rattle.std.specs.List.Sorted.{IsPermutation}
use Rattle.mapdefs.specs.Alpha.{rgba_of}
use Rattle.mapdefs.specs.declared.colour.Rgb.{Rgb}
use Rattle.smoothing.specs.Fine.{smoothed}
use Rattle.smoothing.specs.Laws.{HasShare, IsNearest, LieBetween}
use Rattle.smoothing.specs.Mean.{colours_of, mean_of, nearest}
use Rattle.smoothing.proofs.Equal.{mean-same, nearest-same}
use Rattle.smoothing.proofs.Sharing.{few-colours, nearest-none}

pub nearest-is : (total count : ℕ) → 1 ≤ count → IsNearest total count (nearest total count)
nearest-is total count some =
    let q = nearest total count in
    let low : 2 * count * q ≤ 2 * total + count = mul-div-le (2 * total + count) (2 * count) in
    let high : 2 * total + count < 2 * count * (q + 1) = lt-mul-div-succ (2 * total + count) (omega arith) in
    let same : 2 * count * q ≡ 2 * (q * count) = mul_assoc 2 count q ∙ ap (λ n. 2 * n) (mul_comm count q) in
    let next : 2 * count * (q + 1) ≡ 2 * count * q + 2 * count = omega arith in
    record { at_most = omega (arith, low, same); above = omega (arith, high, same, next) }

pub one-same : (fine : ℕ → ℕ → Option Rgb) (i j : ℕ) → smoothed 1 fine i j ≡ rgba_of (fine i j)
unfolding smoothed
one-same fine i j = rw (one-mul i, one-mul j) (mean-same 1 (fine i j) (omega arith))

-- a share lies between bounds of what is shared
pub share-between : (f : Rgb → ℕ) (low high : ℕ) (colours : List Rgb) → AllByRecursion (λ c. (low ≤ f c) × (f c ≤ high)) colours → (length colours * low ≤ sum_by f colours) × (sum_by f colours ≤ length colours * high)
share-between f low high [] h = (omega arith, omega arith)
share-between f low high (c ∷ colours) h =
    let rest = share-between f low high colours h.1 in
    let one = sum_by-cons f c colours in
    (omega (arith, one, rest.0, h.0.0), omega (arith, one, rest.1, h.0.1))

nearest-between : (low high total count : ℕ) → 1 ≤ count → count * low ≤ total → total ≤ count * high → (low ≤ nearest total count) × (nearest total count ≤ high)
nearest-between low high total count some a b =
    let l : low * (2 * count) ≡ 2 * (count * low) = mul_comm low (2 * count) ∙ mul_assoc 2 count low in
    let h : suc high * (2 * count) ≡ 2 * (count * high) + 2 * count = mul_comm (suc high) (2 * count) ∙ mul_assoc 2 count (suc high) ∙ (omega arith) in
    let less : nearest total count < suc high = div_below (2 * total + count) (2 * count) (suc high) (omega arith) (omega (arith, h)) in
    (le-div low (2 * total + count) (2 * count) (omega arith) (omega (arith, l)), omega (arith, less))

channel-between : (f : Rgb → ℕ) (low high : ℕ) (colours : List Rgb) → 1 ≤ length colours → AllByRecursion (λ c. (low ≤ f c) × (f c ≤ high)) colours →
    (low ≤ nearest (sum_by f colours) (length colours)) × (nearest (sum_by f colours) (length colours) ≤ high)
channel-between f low high colours some all =
    let s = share-between f low high colours all in
    nearest-between low high (sum_by f colours) (length colours) some s.0 s.1

each-red : (low high : Rgb) (colours : List Rgb) → AllByRecursion (λ (c : Rgb). LieBetween low high c.red c.green c.blue) colours → AllByRecursion (λ (c : Rgb). (low.red ≤ c.red) × (c.red ≤ high.red)) colours
each-red low high [] h = tt
each-red low high (c ∷ colours) h = ((h.0.least_red, h.0.most_red), each-red low high colours h.1)

each-green : (low high : Rgb) (colours : List Rgb) → AllByRecursion (λ (c : Rgb). LieBetween low high c.red c.green c.blue) colours → AllByRecursion (λ (c : Rgb). (low.green ≤ c.green) × (c.green ≤ high.green)) colours
each-green low high [] h = tt
each-green low high (c ∷ colours) h = ((h.0.least_green, h.0.most_green), each-green low high colours h.1)

each-blue : (low high : Rgb) (colours : List Rgb) → AllByRecursion (λ (c : Rgb). LieBetween low high c.red c.green c.blue) colours → AllByRecursion (λ (c : Rgb). (low.blue ≤ c.blue) × (c.blue ≤ high.blue)) colours
each-blue low high [] h = tt
each-blue low high (c ∷ colours) h = ((h.0.least_blue, h.0.most_blue), each-blue low high colours h.1)

pub mean-between : (pixels : List (Option Rgb)) (low high : Rgb) → 1 ≤ length (colours_of pixels) → AllByRecursion (λ (c : Rgb). LieBetween low high c.red c.green c.blue) (colours_of pixels) →
    LieBetween low high (mean_of pixels).red (mean_of pixels).green (mean_of pixels).blue
unfolding mean_of
mean-between pixels low high some all =
    let colours = colours_of pixels in
    let r = channel-between (λ (c : Rgb). c.red) low.red high.red colours some (each-red low high colours all) in
    let g = channel-between (λ (c : Rgb). c.green) low.green high.green colours some (each-green low high colours all) in
    let b = channel-between (λ (c : Rgb). c.blue) low.blue high.blue colours some (each-blue low high colours all) in
    record { least_red = r.0; least_green = g.0; least_blue = b.0; most_red = r.1; most_green = g.1; most_blue = b.1 }

-- what a pixel adds to a sum over the colours
abbrev part : (Rgb → ℕ) → Option Rgb → ℕ
part f None = 0
part f (Some c) = f c

sum-parts : (f : Rgb → ℕ) (pixels : List (Option Rgb)) → sum_by f (colours_of pixels) ≡ sum_by (part f) pixels
sum-parts f [] = refl
sum-parts f (None ∷ pixels) = omega (arith, sum_by-cons (part f) None pixels, sum-parts f pixels)
sum-parts f (Some c ∷ pixels) = omega (arith, sum_by-cons (part f) (Some c) pixels, sum_by-cons f c (colours_of pixels), sum-parts f pixels)

count-sum : {X : Type 0} (xs : List X) → length xs ≡ sum_by (λ (x : X). 1) xs
count-sum [] = refl
count-sum {X} (x ∷ xs) = omega (arith, sum_by-cons (λ (x : X). 1) x xs, count-sum xs)

same-sum : (f : Rgb → ℕ) (a b : List (Option Rgb)) → IsPermutation a b → sum_by f (colours_of a) ≡ sum_by f (colours_of b)
same-sum f a b h = sum-parts f a ∙ sym (sum_by-IsPermutation (part f) a b h) ∙ sym (sum-parts f b)

pub order-same : (a b : List (Option Rgb)) → IsPermutation a b → mean_of a ≡ mean_of b
unfolding mean_of
order-same a b h =
    let r = same-sum (λ (c : Rgb). c.red) a b h in
    let g = same-sum (λ (c : Rgb). c.green) a b h in
    let u = same-sum (λ (c : Rgb). c.blue) a b h in
    let n : length (colours_of a) ≡ length (colours_of b) = count-sum (colours_of a) ∙ same-sum (λ (c : Rgb). 1) a b h ∙ sym (count-sum (colours_of b)) in
    let m : length a ≡ length b = count-sum a ∙ sym (sum_by-IsPermutation (λ (p : Option Rgb). 1) a b h) ∙ sym (count-sum b) in
    rw (r, g, u, n, m) refl

none-all : (pixels : List (Option Rgb)) → length (colours_of pixels) ≡ 0 → AllByRecursion (λ p. p ≡ None) pixels
none-all [] h = tt
none-all (None ∷ pixels) h = (refl, none-all pixels h)
none-all (Some c ∷ pixels) h = absurd (omega arith)

all-none : (pixels : List (Option Rgb)) → AllByRecursion (λ p. p ≡ None) pixels → length (colours_of pixels) ≡ 0
all-none [] h = refl
all-none (None ∷ pixels) h = all-none pixels h.1
all-none (Some c ∷ pixels) h = let no : Some c ≡ None = h.0 in absurd (cc)

some-all : (pixels : List (Option Rgb)) → length (colours_of pixels) ≡ length pixels → AllByRecursion IsSome pixels
some-all [] h = tt
some-all (None ∷ pixels) h = absurd (omega (arith, few-colours pixels))
some-all (Some c ∷ pixels) h = (refl, some-all pixels (omega arith))

all-some : (pixels : List (Option Rgb)) → AllByRecursion IsSome pixels → length (colours_of pixels) ≡ length pixels
all-some [] h = refl
all-some (None ∷ pixels) h = let no : false ≡ true = h.0 in absurd (cc)
all-some (Some c ∷ pixels) h = omega (arith, all-some pixels h.1)

alpha-none : (c n : ℕ) → 1 ≤ n → n ≤ 255 → nearest (255 * c) n ≡ 0 → c ≡ 0
alpha-none c n some few e =
    let is = nearest-is (255 * c) n some in
    omega (arith, is.above, ap (λ q. 2 * (q * n)) e)

alpha-all : (c n : ℕ) → 1 ≤ n → n ≤ 255 → c ≤ n → nearest (255 * c) n ≡ 255 → c ≡ n
alpha-all c n some few most e =
    let is = nearest-is (255 * c) n some in
    omega (arith, is.at_most, ap (λ q. 2 * (q * n)) e)

pub alpha-share : (pixels : List (Option Rgb)) → 1 ≤ length pixels → length pixels ≤ 255 → HasShare pixels (mean_of pixels).alpha
unfolding mean_of
alpha-share pixels some few =
    let n = length pixels in
    let c = length (colours_of pixels) in
    record {
      clear = (λ e. none-all pixels (alpha-none c n some few e), λ all. ap (λ k. nearest (255 * k) n) (all-none pixels all) ∙ nearest-none n);
      opaque = (λ e. some-all pixels (alpha-all c n some few (few-colours pixels) e), λ all. ap (λ k. nearest (255 * k) n) (all-some pixels all) ∙ ap (λ k. nearest k n) (mul_comm 255 n) ∙ nearest-same n 255 some);
    }
