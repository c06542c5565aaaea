-- Blocks of pixels, row by row.
use Rattle.std.proofs.Common.{◌≡◌, ◌∙◌, ℕ, zero, suc, ◌+◌, ◌-◌, ◌*◌, ◌<◌, ◌≤◌, List, [], ◌∷◌, ◌++◌, Option, None, length, map, take, drop, get_or, ap, refl, add-one, drop-cons, arith}
use Rattle.std.proofs.lemmas.List.{append-nil, length-drop, length-take}
use Rattle.std.proofs.lemmas.Grind.{flat_map-append}
use Rattle.std.proofs.lemmas.Nat.{mul-le}
use Rattle.std.specs.List.{range_with_len, slice_range}
use Rattle.mapdefs.specs.declared.colour.Rgb.{Rgb}
use Rattle.smoothing.specs.Fine.{pixel_at, pixels_in}

-- a run of a list by its places
run-places : (xs : List (Option Rgb)) (n k at first : ℕ) → at ≡ k + first → at + n ≤ length xs → take n (drop at xs) ≡ map (λ i. get_or xs (k + i) None) (range_with_len first n)
run-places xs zero k at first e h = refl
run-places xs (suc n) k at first e h =
    let within : at < length xs = omega arith in
    let rest = run-places xs n k (suc at) (first + 1) (omega arith) (omega arith) in
    rw (drop-cons xs at None within, ← e) (ap (λ l. get_or xs at None ∷ l) rest)

-- the pixels of a row
pub row-run : (pixels : List (Option Rgb)) (width first n row at end : ℕ) → at ≡ row * width + first → end ≡ at + n → end ≤ length pixels →
    slice_range pixels at end ≡ map (λ i. pixel_at pixels width i row) (range_with_len first n)
row-run pixels width first n row at end e f h =
    let count : end - at ≡ n = omega arith in
    rw count (run-places pixels n (row * width) at first e (omega arith))

range-more : (a n j : ℕ) → a + n ≡ j → range_with_len a (suc n) ≡ range_with_len a n ++ j ∷ []
range-more a zero j e = let same : a ≡ j = omega arith in rw same refl
range-more a (suc n) j e = ap (λ l. a ∷ l) (range-more (a + 1) n j (omega arith))

range-next : (a n j : ℕ) → a + n ≡ j → range_with_len a (n + 1) ≡ range_with_len a n ++ j ∷ []
range-next a n j e = rw add-one (range-more a n j e)

-- a block with one row more
pub block-more : (fine : ℕ → ℕ → Option Rgb) (first n from row j : ℕ) (run : List (Option Rgb)) → from + row ≡ j → run ≡ map (λ i. fine i j) (range_with_len first n) →
    pixels_in fine first n from row ++ run ≡ pixels_in fine first n from (row + 1)
block-more fine first n from row j run e same =
    let f = λ (j : ℕ). map (λ i. fine i j) (range_with_len first n) in
    rw (same, range-next from row j e, flat_map-append f (range_with_len from row) (j ∷ []), append-nil (f j)) refl

-- the places of a row lie within its rows
pub row-within : (n width row first w : ℕ) → row < n → first + w ≤ width → row * width + first + w ≤ n * width
row-within n width row first w a b =
    let most : (row + 1) * width ≤ n * width = mul-le (row + 1) width n width (omega arith) (omega arith) in
    omega arith

pub range-count : (pixels : List (Option Rgb)) (at n : ℕ) → at + n ≤ length pixels → length (slice_range pixels at (at + n)) ≡ n
range-count pixels at n h = omega (arith, length-take {A = Option Rgb}, length-drop {A = Option Rgb})

-- how many pixels a block has
range-length : (a n : ℕ) → length (range_with_len a n) ≡ n
range-length a zero = refl
range-length a (suc n) = ap suc (range-length (a + 1) n)

map-length : {A B : Type 0} (f : A → B) (xs : List A) → length (map f xs) ≡ length xs
map-length f [] = refl
map-length f (x ∷ xs) = ap suc (map-length f xs)

append-length : {A : Type 0} (xs ys : List A) → length (xs ++ ys) ≡ length xs + length ys
append-length [] ys = omega arith
append-length (x ∷ xs) ys = omega (arith, append-length xs ys)

pub block-length : (fine : ℕ → ℕ → Option Rgb) (first n from rows : ℕ) → length (pixels_in fine first n from rows) ≡ rows * n
block-length fine first n from zero = omega arith
block-length fine first n from (suc rows) =
    let one : length (map (λ i. fine i from) (range_with_len first n)) ≡ n = map-length (λ i. fine i from) (range_with_len first n) ∙ range-length first n in
    omega (arith, append-length (map (λ i. fine i from) (range_with_len first n)) (pixels_in fine first n (from + 1) rows), one, block-length fine first n (from + 1) rows)

-- a block has sixteen pixels at most
pub few-pixels : (n : ℕ) → n ≤ 4 → n * n ≤ 16
few-pixels n h = mul-le n n 4 4 h h
