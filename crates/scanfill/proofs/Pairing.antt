-- Sorted flips, taken by twos.
use Rattle.std.proofs.Common.{◌≡◌, ◌∙◌, ℕ, suc, ◌+◌, ◌/◌, ◌%◌, ◌<◌, ◌≤◌, Bool, true, false, ◌&&◌, ◌||◌, cond, List, ◌∷◌, length, get_or, refl, sym, ap, arith, inl, inr, ◌⊎◌, ⊎_elim}
use Rattle.std.proofs.lemmas.Bool.{and_right, cases_lt, eqb-true, le-leb, le-ltb, lt-leb, lt-ltb}
use Rattle.std.proofs.lemmas.List.Sums.{sum_by-cons}
use Rattle.std.proofs.lemmas.Nat.{div-add-mod', mod_below}
use Rattle.std.specs.List.{count_by}
use Rattle.std.specs.Prelude.{nat_le, nat_lt, ◌==◌}
use Rattle.geom.specs.EvenOdd.{is_odd}
use Rattle.scanfill.specs.Flips.{AreRising, AreFlipsOf, IsFlipOf, has_pixel, index_of, is_pixel_flipped, flips_by}
use Rattle.scanfill.proofs.Counting.{count-none}
use Rattle.scanfill.proofs.FlipCounts.{flip-test}

-- the index of a pixel has its row and its column
pub index-parts : (k : ℕ) → k ≡ index_of (k / 2048) (k % 2048)
index-parts k = sym (div-add-mod' k 2048)

pub column-below : (k : ℕ) → k % 2048 < 2048
column-below k = mod_below k 2048 (omega arith)

-- what follows a flip
pub rising-first : (k : ℕ) (flips : List ℕ) → AreRising (k ∷ flips) → (n d : ℕ) → n < length flips → k ≤ get_or flips n d
rising-first k flips r n d h = r 0 (suc n) d (omega arith) (omega arith)

pub rising-rest : (k : ℕ) (flips : List ℕ) → AreRising (k ∷ flips) → AreRising flips
rising-rest k flips r = λ m n d le below. r (suc m) (suc n) d (omega arith) (omega arith)

pub flips-rest : (w h k : ℕ) (flips : List ℕ) → AreFlipsOf w h (k ∷ flips) → AreFlipsOf w h flips
flips-rest w h k flips t = record {
  each = λ n d below. t.each (suc n) d (omega arith);
  rising = rising-rest k flips t.rising;
}

pub flip-first : (w h k : ℕ) (flips : List ℕ) → AreFlipsOf w h (k ∷ flips) → IsFlipOf w h k
flip-first w h k flips t = t.each 0 k (omega arith)

-- flips right of a pixel, or in later rows, leave it as it is
none-later : (i j least : ℕ) (flips : List ℕ) → index_of j i < least → ((n d : ℕ) → n < length flips → least ≤ get_or flips n d) → count_by (flips_by i j) flips ≡ 0
none-later i j least flips before all = count-none (flips_by i j) flips (λ n d h.
    and_right (nat_le (index_of j 0) (get_or flips n d)) (nat_le (get_or flips n d) (index_of j i)) (lt-leb (get_or flips n d) (index_of j i) (omega (arith, all n d h))))

-- one more flip
flipped-cons : (k : ℕ) (flips : List ℕ) (i j : ℕ) → count_by (flips_by i j) (k ∷ flips) ≡ cond {A = ℕ} (flips_by i j k) 1 0 + count_by (flips_by i j) flips
flipped-cons k flips i j = sum_by-cons (λ (n : ℕ). cond {A = ℕ} (flips_by i j n) 1 0) k flips

odd-none : (n : ℕ) → is_odd (0 + (0 + n)) ≡ is_odd n
odd-none n = ap is_odd (omega arith)

odd-none-one : (n : ℕ) → is_odd (0 + n) ≡ is_odd n
odd-none-one n = ap is_odd (omega arith)

odd-two : (n : ℕ) → is_odd (1 + (1 + n)) ≡ is_odd n
odd-two n = grind arith

-- two flips of a row: the pixels from the first to before the second are flipped
pub span-two : (row from to k l : ℕ) (flips : List ℕ) (i j : ℕ) → k ≡ index_of row from → l ≡ index_of row to → from < 2048 → to < 2048 → k ≤ l → i < 2048 →
    ((n d : ℕ) → n < length flips → l ≤ get_or flips n d) →
    is_pixel_flipped (k ∷ l ∷ flips) i j ≡ (has_pixel (record { row = row; from = from; to = to }) i j || is_pixel_flipped flips i j)
span-two row from to k l flips i j first second left right le column all =
    let one : flips_by i j k ≡ (j == row && nat_le from i) = ap (flips_by i j) first ∙ flip-test i j row from column left in
    let two : flips_by i j l ≡ (j == row && nat_le to i) = ap (flips_by i j) second ∙ flip-test i j row to column right in
    ap is_odd (flipped-cons k (l ∷ flips) i j)
    ∙ (ap (λ n. is_odd (cond {A = ℕ} (flips_by i j k) 1 0 + n)) (flipped-cons l flips i j)
    ∙ (ap (λ b. is_odd (cond {A = ℕ} b 1 0 + (cond {A = ℕ} (flips_by i j l) 1 0 + count_by (flips_by i j) flips))) one
    ∙ (ap (λ b. is_odd (cond {A = ℕ} (j == row && nat_le from i) 1 0 + (cond {A = ℕ} b 1 0 + count_by (flips_by i j) flips))) two
    ∙ go (j == row) refl (cases_lt i from) (cases_lt i to))))
  where
    go : (b : Bool) → (j == row) ≡ b → (i < from) ⊎ (from ≤ i) → (i < to) ⊎ (to ≤ i) →
        is_odd (cond {A = ℕ} (b && nat_le from i) 1 0 + (cond {A = ℕ} (b && nat_le to i) 1 0 + count_by (flips_by i j) flips))
        ≡ ((b && (nat_le from i && nat_lt i to)) || is_pixel_flipped flips i j)
    go false e p q = odd-none (count_by (flips_by i j) flips)
    go true e (inl before) (inl inside) = rw (lt-leb from i before, lt-leb to i inside) (odd-none (count_by (flips_by i j) flips))
    go true e (inl before) (inr after) = absurd (omega arith)
    go true e (inr begun) (inl inside) =
        let same : j ≡ row = eqb-true j row e in
        rw (le-leb from i begun, lt-leb to i inside, lt-ltb i to inside, none-later i j l flips (omega arith) all) refl
    go true e (inr begun) (inr after) = rw (le-leb from i begun, le-leb to i after, le-ltb i to after) (odd-two (count_by (flips_by i j) flips))

-- a last flip of a row: all pixels from it on are
pub span-one : (w row from k : ℕ) (flips : List ℕ) (i j : ℕ) → k ≡ index_of row from → from < 2048 → w ≤ 2048 → i < w →
    ((n d : ℕ) → n < length flips → index_of (row + 1) 0 ≤ get_or flips n d) →
    is_pixel_flipped (k ∷ flips) i j ≡ (has_pixel (record { row = row; from = from; to = w }) i j || is_pixel_flipped flips i j)
span-one w row from k flips i j first left most column all =
    let one : flips_by i j k ≡ (j == row && nat_le from i) = ap (flips_by i j) first ∙ flip-test i j row from (omega arith) left in
    ap is_odd (flipped-cons k flips i j)
    ∙ (ap (λ b. is_odd (cond {A = ℕ} b 1 0 + count_by (flips_by i j) flips)) one ∙ go (j == row) refl (cases_lt i from))
  where
    go : (b : Bool) → (j == row) ≡ b → (i < from) ⊎ (from ≤ i) →
        is_odd (cond {A = ℕ} (b && nat_le from i) 1 0 + count_by (flips_by i j) flips) ≡ ((b && (nat_le from i && nat_lt i w)) || is_pixel_flipped flips i j)
    go false e p = odd-none-one (count_by (flips_by i j) flips)
    go true e (inl before) = rw (lt-leb from i before) (odd-none-one (count_by (flips_by i j) flips))
    go true e (inr begun) =
        let same : j ≡ row = eqb-true j row e in
        rw (le-leb from i begun, lt-ltb i w column, none-later i j (index_of (row + 1) 0) flips (omega arith) all) refl

-- a flip that isn't of the row of the one before it is of a later row
pub rows-later : (k l row : ℕ) → k / 2048 ≡ row → k ≤ l → (l / 2048 ≡ row → ⊥) → index_of (row + 1) 0 ≤ l
rows-later k l row is le other = ⊎_elim
    (λ (early : l / 2048 < row + 1). absurd (other (omega (arith, early, is, le, div-add-mod' k 2048, div-add-mod' l 2048, mod_below k 2048 (omega arith), mod_below l 2048 (omega arith)))))
    (λ (late : row + 1 ≤ l / 2048). omega (arith, late, div-add-mod' l 2048))
    (cases_lt (l / 2048) (row + 1))
