-- Columns of sums that are taken together.
use Rattle.std.proofs.Common.{◌≡◌, ◌∙◌, ℕ, zero, suc, ◌+◌, ◌-◌, ◌*◌, ◌<◌, ◌≤◌, List, ◌++◌, Option, None, Some, length, map, take, drop, get_or, replicate, ap, refl, drop-cons, arith}
use Rattle.std.proofs.lemmas.List.{get_or-drop, get_or-take}
use Rattle.std.proofs.lemmas.List.Sums.{sum_by-append, sum_by-cons}
use Rattle.std.specs.Prelude.{sum}
use Rattle.std.specs.List.{AllByRecursion, range_with_len, slice_range, sum_by}
use Rattle.mapdefs.specs.Alpha.{rgba_of}
use Rattle.mapdefs.specs.declared.colour.Rgb.{Rgb}
use Rattle.smoothing.specs.Columns.{AreColumns, joined}
use Rattle.smoothing.specs.Fine.{pixel_at, pixels_in}
use Rattle.smoothing.specs.Sums.{AreSums, HasBytes, outer_of, inner_of}
use Rattle.smoothing.proofs.Blocks.{block-more}
use Rattle.smoothing.proofs.Summing.{bytes-append}

-- columns that grew by one row, from one on
pub sum-grown : (f : Option Rgb → ℕ) (g : ℕ → Option Rgb) (first w : ℕ) (old new : List ℕ) → length old ≡ w → length new ≡ w → ((k : ℕ) → k < w → get_or new k 0 ≡ get_or old k 0 + f (g (first + k))) →
    (count at from : ℕ) → first + at ≡ from → at + count ≤ w → sum (take count (drop at new)) ≡ sum (take count (drop at old)) + sum_by f (map g (range_with_len from count))
sum-grown f g first w old new a b each zero at from e h = refl
sum-grown f g first w old new a b each (suc count) at from e h =
    let here : get_or new at 0 ≡ get_or old at 0 + f (g from) = each at (omega arith) ∙ ap (λ k. get_or old at 0 + f (g k)) e in
    let rest = sum-grown f g first w old new a b each count (suc at) (from + 1) (omega arith) (omega arith) in
    let p : at < length new = omega arith in
    let q : at < length old = omega arith in
    rw (drop-cons new at 0 p, drop-cons old at 0 q)
    (omega (
      arith,
      here,
      rest,
      sum_by-cons (λ (x : ℕ). x) (get_or new at 0) (take count (drop (suc at) new)),
      sum_by-cons (λ (x : ℕ). x) (get_or old at 0) (take count (drop (suc at) old)),
      sum_by-cons f (g from) (map g (range_with_len (from + 1) count)),
    ))

bytes-of : (g : ℕ → Option Rgb) (first w : ℕ) → ((k : ℕ) → k < w → HasBytes (g (first + k))) → (count at from : ℕ) → first + at ≡ from → at + count ≤ w → AllByRecursion HasBytes (map g (range_with_len from count))
bytes-of g first w each zero at from e h = tt
bytes-of g first w each (suc count) at from e h =
    let here : HasBytes (g from) = rw e at (each at (omega arith)) in
    (here, bytes-of g first w each count (suc at) (from + 1) (omega arith) (omega arith))

-- the pixels of a run by their places
pub run-at : (pixels : List (Option Rgb)) (width first w row k : ℕ) → k < w →
    get_or (slice_range pixels (row * width + first) (row * width + first + w)) k None ≡ pixel_at pixels width (first + k) row
run-at pixels width first w row k h =
    let count : row * width + first + w - (row * width + first) ≡ w = omega arith in
    let place : row * width + first + k ≡ row * width + (first + k) = omega arith in
    rw count (get_or-take w (drop (row * width + first) pixels) k None h ∙ get_or-drop (row * width + first) pixels k None ∙ ap (λ n. get_or pixels n None) place)

alpha-most : (p : Option Rgb) → (rgba_of p).alpha ≤ 255
alpha-most None = omega arith
alpha-most (Some c) = omega arith

-- columns with one row more
pub columns-more : (fine : ℕ → ℕ → Option Rgb) (first w row : ℕ) (outer inner outers inners : List ℕ) → length outers ≡ w → length inners ≡ w →
    ((k : ℕ) → k < w → HasBytes (fine (first + k) row)) →
    ((k : ℕ) → k < w → get_or outers k 0 ≡ get_or outer k 0 + outer_of (fine (first + k) row)) →
    ((k : ℕ) → k < w → get_or inners k 0 ≡ get_or inner k 0 + inner_of (fine (first + k) row)) →
    AreColumns fine first w row outer inner → AreColumns fine first w (row + 1) outers inners
columns-more fine first w row outer inner outers inners c d bytes o i are = record {
  wide = c;
  high = d;
  sums = λ at count h.
      let g = λ (k : ℕ). fine k row in
      let run = map g (range_with_len (first + at) count) in
      let before = are.sums at count h in
      let all : AreSums (pixels_in fine (first + at) count 0 row ++ run) (joined outers inners at count) = record {
        bytes = bytes-append (pixels_in fine (first + at) count 0 row) run before.bytes (bytes-of g first w bytes count at (first + at) refl h);
        outer = omega (arith, sum-grown outer_of g first w outer outers are.wide c o count at (first + at) refl h, before.outer, sum_by-append outer_of (pixels_in fine (first + at) count 0 row) run);
        inner = omega (arith, sum-grown inner_of g first w inner inners are.high d i count at (first + at) refl h, before.inner, sum_by-append inner_of (pixels_in fine (first + at) count 0 row) run);
      } in
      rw (← block-more fine (first + at) count 0 row row run (omega arith) refl) all;
  few = λ k h.
      let byte = bytes k h in
      omega (arith, o k h, are.few k h, byte.red, byte.blue);
  fewer = λ k h.
      let byte = bytes k h in
      omega (arith, i k h, are.fewer k h, byte.green, alpha-most (fine (first + k) row));
}

zeros : (w at count : ℕ) → sum (take count (drop at (replicate w 0))) ≡ 0
zeros zero zero zero = refl
zeros zero zero (suc count) = refl
zeros zero (suc at) zero = refl
zeros zero (suc at) (suc count) = refl
zeros (suc w) zero zero = refl
zeros (suc w) zero (suc count) = omega (arith, sum_by-cons (λ (x : ℕ). x) 0 (take count (replicate w 0)), zeros w zero count)
zeros (suc w) (suc at) count = zeros w at count

zeros-length : (w : ℕ) → length {A = ℕ} (replicate w 0) ≡ w
zeros-length zero = refl
zeros-length (suc w) = ap suc (zeros-length w)

zero-at : (w k : ℕ) → ◌≡◌ {A = ℕ} (get_or (replicate w 0) k 0) 0
zero-at zero k = refl
zero-at (suc w) zero = refl
zero-at (suc w) (suc k) = zero-at w k

-- columns of no rows
pub columns-none : (fine : ℕ → ℕ → Option Rgb) (first w : ℕ) → AreColumns fine first w 0 (replicate w 0) (replicate w 0)
columns-none fine first w = record {
  wide = zeros-length w;
  high = zeros-length w;
  sums = λ at count h. record { bytes = tt; outer = zeros w at count; inner = zeros w at count };
  few = λ k h. omega (arith, zero-at w k);
  fewer = λ k h. omega (arith, zero-at w k);
}
