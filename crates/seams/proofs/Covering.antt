-- A pixel within the outline of two polygons has the colour of one of them, whatever was painted before.
use Rattle.std.proofs.Common.{◌≡◌, ◌∙◌, ℕ, zero, suc, ◌+◌, ◌*◌, ◌<◌, ◌≤◌, Bool, true, false, if◌then◌else◌, List, [], ◌∷◌, ◌++◌, length, map, reverse, Option, Some, refl, sym, ap, arith}
use Rattle.std.proofs.lemmas.List.{length-append, reverse-append}
use Rattle.std.proofs.lemmas.List.FromFn.{length-map-range_with_len, length-range_with_len}
use Rattle.std.specs.List.{AllByRecursion, flat_map, range_with_len}
use Rattle.std.specs.Prelude.{IsSome, find, pos}
use Rattle.std.specs.Option.{option_map_or}
use Rattle.geom.specs.Device.{DevicePoint, pixel_centre}
use Rattle.geom.specs.EvenOdd.{is_inside}
use Rattle.geom.specs.Laws.{is_one_of}
use Rattle.geom.proofs.Together.{inside-together}
use Rattle.mapdefs.specs.declared.colour.Rgb.{Rgb}
use Rattle.mapdefs.specs.declared.rgba.Rgba.{Rgba}
use Rattle.smoothing.specs.Fine.{pixels_in, smoothed}
use Rattle.smoothing.specs.Laws.{AlphasAreShares}
use Rattle.canvas.specs.Painted.{colour_at}
use Rattle.canvas.specs.Shapes.{PaintedShape, Fill, colour_in, covers}
use Rattle.supersampling.specs.Smooth.{BlocksHaveWholePixels}
use Rattle.seams.specs.Seams.{HaveNoSeams, Neighbours, along, back, both_over, outline}
use Rattle.seams.proofs.Chains.{shared-chains}

-- the colour of the one that a pixel lies inside of, the later one above
abbrev colour_of_both : Neighbours → Rgb → Rgb → ℕ → ℕ → Rgb
colour_of_both n one other i j = if is_inside (back n ∷ []) (pixel_centre (pos i) (pos j)) then other else one

-- a pixel inside of one of them has its colour
painted-both : (n : Neighbours) (one other : Rgb) (ground : Option Rgb) (under : List PaintedShape) (i j : ℕ) →
    is_inside (outline n ∷ []) (pixel_centre (pos i) (pos j)) ≡ true →
    colour_at ground (both_over under n one other) i j ≡ Some (colour_of_both n one other i j)
unfolding colour_at
painted-both n one other ground under i j inside =
    ap (λ shapes. option_map_or (λ shape. colour_in shape i j) (find (λ shape. covers shape i j) shapes) ground)
    (reverse-append under (Fill (along n ∷ []) one ∷ Fill (back n ∷ []) other ∷ []))
    ∙ go (is_inside (back n ∷ []) p) (is_inside (along n ∷ []) p) refl refl
    (sym (inside-together (along n ∷ []) (back n ∷ []) p) ∙ (shared-chains n p ∙ inside))
  where
    p : DevicePoint
    p = pixel_centre (pos i) (pos j)

    go : (b a : Bool) → is_inside (back n ∷ []) p ≡ b → is_inside (along n ∷ []) p ≡ a → is_one_of a b ≡ true →
        option_map_or (λ shape. colour_in shape i j)
        (find (λ shape. covers shape i j) (Fill (back n ∷ []) other ∷ Fill (along n ∷ []) one ∷ reverse under)) ground
        ≡ Some (colour_of_both n one other i j)
    go true a e f h = rw e refl
    go false true e f h = rw (e, f) refl
    go false false e f h = absurd (cc)

-- fine pictures that are equal in a pixel's fine pixels have the same mean there
same-mean : BlocksHaveWholePixels → (times : ℕ) (f g : ℕ → ℕ → Option Rgb) (i j : ℕ) →
    ((k l : ℕ) → k < times → l < times → f (times * i + k) (times * j + l) ≡ g (times * i + k) (times * j + l)) →
    smoothed times f i j ≡ smoothed times g i j
same-mean blocks times f g i j same =
    let block : ℕ → ℕ → Option Rgb = λ k l. f (times * i + k) (times * j + l) in
    let one = blocks times i 1 j 1 block f (λ k l across down. refl) 0 0 (omega arith) (omega arith) in
    let other = blocks times i 1 j 1 block g (λ k l across down. same k l (omega (arith, across)) (omega (arith, down))) 0 0 (omega arith) (omega arith) in
    at f i j (i + 0) (j + 0) (omega arith) (omega arith) ∙ (sym one ∙ (other ∙ sym (at g i j (i + 0) (j + 0) (omega arith) (omega arith))))
  where
    at : (h : ℕ → ℕ → Option Rgb) (a b c d : ℕ) → a ≡ c → b ≡ d → smoothed times h a b ≡ smoothed times h c d
    at h a b c d e f = rw (e, f) refl

-- where each fine pixel has a colour the mean is opaque
all-append : {X : Type 0} (P : X → Type 0) (xs ys : List X) → AllByRecursion P xs → AllByRecursion P ys → AllByRecursion P (xs ++ ys)
all-append P [] ys a b = b
all-append P (x ∷ xs) ys a b = (a.0, all-append P xs ys a.1 b)

all-in-row : (c : ℕ → Rgb) (columns : List ℕ) → AllByRecursion IsSome (map (λ i. Some (c i)) columns)
all-in-row c [] = tt
all-in-row c (i ∷ columns) = (refl, all-in-row c columns)

all-in-rows : (c : ℕ → ℕ → Rgb) (columns rows : List ℕ) → AllByRecursion IsSome (flat_map (λ j. map (λ i. Some (c i j)) columns) rows)
all-in-rows c columns [] = tt
all-in-rows c columns (j ∷ rows) = all-append IsSome (map (λ i. Some (c i j)) columns) _ (all-in-row (λ i. c i j) columns) (all-in-rows c columns rows)

-- so many columns of so many rows
as-many : (f : ℕ → ℕ → Option Rgb) (column columns : ℕ) (rows : List ℕ) → length (flat_map (λ j. map (λ i. f i j) (range_with_len column columns)) rows) ≡ length rows * columns
as-many f column columns [] = omega arith
as-many f column columns (j ∷ rows) =
    length-append (map (λ i. f i j) (range_with_len column columns)) (flat_map (λ l. map (λ i. f i l) (range_with_len column columns)) rows)
    ∙ (ap (λ n. n + length (flat_map (λ l. map (λ i. f i l) (range_with_len column columns)) rows)) (length-map-range_with_len (λ i. f i j) column columns)
    ∙ (ap (λ n. columns + n) (as-many f column columns rows) ∙ one-more (length rows) columns))
  where
    one-more : (m n : ℕ) → n + m * n ≡ suc m * n
    one-more m n = omega arith

opaque-mean : AlphasAreShares → (times : ℕ) (c : ℕ → ℕ → Rgb) (i j : ℕ) → 1 ≤ times → times ≤ 4 → (smoothed times (λ k l. Some (c k l)) i j).alpha ≡ 255
unfolding smoothed
opaque-mean shares times c i j some few =
    let pixels = pixels_in (λ k l. Some (c k l)) (times * i) times (times * j) times in
    let count : length pixels ≡ times * times =
    as-many (λ k l. Some (c k l)) (times * i) times (range_with_len (times * j) times) ∙ ap (λ n. n * times) (length-range_with_len (times * j) times) in
    let bounds = square times some few in
    (shares pixels (omega (arith, count, bounds.0)) (omega (arith, count, bounds.1))).opaque.1 (all-in-rows c (range_with_len (times * i) times) (range_with_len (times * j) times))
  where
    square : (n : ℕ) → 1 ≤ n → n ≤ 4 → (1 ≤ n * n) × (n * n ≤ 255)
    square zero some few = absurd (omega (arith, some))
    square (suc zero) some few = (omega arith, omega arith)
    square (suc (suc zero)) some few = (omega arith, omega arith)
    square (suc (suc (suc zero))) some few = (omega arith, omega arith)
    square (suc (suc (suc (suc zero)))) some few = (omega arith, omega arith)
    square (suc (suc (suc (suc (suc n))))) some few = absurd (omega (arith, few))

-- the law
pub no-seams : BlocksHaveWholePixels → AlphasAreShares → HaveNoSeams
no-seams blocks shares times n one other ground under i j factor within = record {
  opaque = ap (λ (pixel : Rgba). pixel.alpha) (mean ground under) ∙ opaque-mean shares times (colour_of_both n one other) i j factor.some factor.most;
  same = λ another others. mean ground under ∙ sym (mean another others);
}
  where
    mean : (ground : Option Rgb) (under : List PaintedShape) →
        smoothed times (colour_at ground (both_over under n one other)) i j ≡ smoothed times (λ k l. Some (colour_of_both n one other k l)) i j
    mean ground under = same-mean blocks times (colour_at ground (both_over under n one other)) (λ k l. Some (colour_of_both n one other k l)) i j
        (λ k l across down. painted-both n one other ground under (times * i + k) (times * j + l) (within k l across down))
