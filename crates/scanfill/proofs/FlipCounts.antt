-- The flips of rows, counted.
use Rattle.std.proofs.Common.{◌≡◌, ◌∙◌, ℕ, ◌+◌, ◌<◌, ◌≤◌, min, Bool, true, false, ◌&&◌, cond, List, [], ◌∷◌, ◌++◌, refl, sym, ap, arith, inl, inr, ◌⊎◌}
use Rattle.std.proofs.lemmas.Bool.{and_from, and_left, and_right, cases_Bool, cases_lt, cases_order, eq-eqb, eqb-true, le-leb, lt-leb, ne_eqb}
use Rattle.std.proofs.lemmas.Bool.Decides.{nat_tests}
use Rattle.std.proofs.lemmas.List.Sums.{sum_by_push}
use Rattle.std.proofs.lemmas.Nat.{div-mul-add, mod-mul-add}
use Rattle.std.specs.List.{count_by}
use Rattle.std.specs.Prelude.{int_le, nat_le, ◌==◌}
use lib.IntN.{ℤ, pos}
use Rattle.clip.specs.EdgeClass.{at_least_zero, has_row}
use Rattle.clip.proofs.Rowed.{cut-at_most}
use Rattle.scanfill.specs.Flips.{IsFlipOf, index_of, flips_by}

-- a flip of a row, at a column or left of it
pub flip-test : (i j row column : ℕ) → i < 2048 → column < 2048 → flips_by i j (index_of row column) ≡ (j == row && nat_le column i)
flip-test i j row column left right = elim (cases_order j row) [
  | inl same ↦ at (cases_lt i column) same
  | inr (inl above) ↦
      and_right (nat_le (index_of j 0) (index_of row column)) (nat_le (index_of row column) (index_of j i)) (lt-leb (index_of row column) (index_of j i) (omega arith))
      ∙ sym (and_left (j == row) (nat_le column i) (ne_eqb j row (λ e. omega (arith, e, above))))
  | inr (inr below) ↦
      and_left (nat_le (index_of j 0) (index_of row column)) (nat_le (index_of row column) (index_of j i)) (lt-leb (index_of j 0) (index_of row column) (omega arith))
      ∙ sym (and_left (j == row) (nat_le column i) (ne_eqb j row (λ e. omega (arith, e, below))))
]
  where
    at : (i < column) ⊎ (column ≤ i) → j ≡ row → flips_by i j (index_of row column) ≡ (j == row && nat_le column i)
    at (inl lt) same =
        and_right (nat_le (index_of j 0) (index_of row column)) (nat_le (index_of row column) (index_of j i)) (lt-leb (index_of row column) (index_of j i) (omega arith))
        ∙ sym (and_right (j == row) (nat_le column i) (lt-leb column i lt))
    at (inr ge) same =
        and_from (nat_le (index_of j 0) (index_of row column)) (nat_le (index_of row column) (index_of j i))
        (le-leb (index_of j 0) (index_of row column) (omega arith)) (le-leb (index_of row column) (index_of j i) (omega arith))
        ∙ sym (and_from (j == row) (nat_le column i) (eq-eqb j row same) (le-leb column i ge))

-- one more row
pub rows-step : (from row j : ℕ) (t : Bool) → from ≤ row →
    cond {A = ℕ} (has_row (record { from = from; to = row }) j && t) 1 0 + cond {A = ℕ} (j == row && t) 1 0
    ≡ cond {A = ℕ} (has_row (record { from = from; to = row + 1 }) j && t) 1 0
rows-step from row j true le = grind (arith, nat_tests)
rows-step from row j false le = grind (arith, nat_tests)

-- no row
pub rows-none : (from j n : ℕ) (t : Bool) → n ≡ n + cond {A = ℕ} (has_row (record { from = from; to = from }) j && t) 1 0
rows-none from j n true = grind (arith, nat_tests)
rows-none from j n false = grind (arith, nat_tests)

-- the column of the row itself
pub row-itself : (j row : ℕ) (s t : Bool) → (j ≡ row → s ≡ t) → (j == row && s) ≡ (j == row && t)
row-itself j row s t same = elim (cases_Bool (j == row)) [
  | inl hit ↦ ap (λ b. j == row && b) (same (eqb-true j row hit))
  | inr other ↦ and_left (j == row) s other ∙ sym (and_left (j == row) t other)
]

-- what was counted before a row, and its flip
pub flips-more : (from row j old before new : ℕ) (s t : Bool) → from ≤ row → (j ≡ row → s ≡ t) →
    before ≡ old + cond {A = ℕ} (has_row (record { from = from; to = row }) j && t) 1 0 → new ≡ before + cond {A = ℕ} (j == row && s) 1 0 →
    new ≡ old + cond {A = ℕ} (has_row (record { from = from; to = row + 1 }) j && t) 1 0
flips-more from row j old before new s t le same e f =
    omega (arith, rows-step from row j t le, ap (λ b. cond {A = ℕ} b 1 0) (row-itself j row s t same))

-- a test beside one that holds
pub and_right_true : (a b : Bool) → b ≡ true → (a && b) ≡ a
and_right_true true b e = e
and_right_true false b e = refl
