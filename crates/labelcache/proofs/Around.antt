-- What is near lies in the cells around.
use Rattle.std.proofs.Common.{◌≡◌, ◌∙◌, ap, sym, ℕ, ◌+◌, ◌-◌, ◌*◌, ◌/◌, ◌^◌, ◌<◌, ◌≤◌, ⊎_elim, inl, inr, arith}
use Rattle.std.proofs.lemmas.Bool.{cases_lt}
use Rattle.std.proofs.lemmas.Nat.{mul-le}
use Rattle.std.specs.Prelude.{◌⊎◌}
use Rattle.labelcache.specs.Candidate.{square}
use Rattle.labelcache.specs.Cells.{apart, cell_of}
use Rattle.labelcache.specs.declared.cells.Cell.{Cell}
use Rattle.labelcache.specs.declared.cells.GridPoint.{GridPoint}
use Rattle.labelcache.proofs.Nesting.{cell-from, cell-to}

-- a leg of a right angle is shorter than the distance
leg : (a d : ℕ) (b : ℕ) → square a + b < square d → a < d
leg a d b h = ⊎_elim
    (λ (lt : a < d). lt)
    (λ (le : d ≤ a). let m = mul-le d d a a le le in absurd (omega (arith, m, h)))
    (cases_lt a d)

pub leg-across : (a b d : ℕ) → square a + square b < square d → a < d
leg-across a b d h = leg a d (square b) h

pub leg-down : (a b d : ℕ) → square a + square b < square d → b < d
leg-down a b d h = leg b d (square a) (omega (arith, h))

-- it lies in the first cell or in the last one
pub first-or-last : (at d x : ℕ) → d < 2 ^ 16 → apart at x < d → (x / 2 ^ 17 ≡ (at - d) / 2 ^ 17) ⊎ (x / 2 ^ 17 ≡ (at + d) / 2 ^ 17)
first-or-last at d x most near =
    let low : ℕ = (at - d) / 2 ^ 17 in
    let high : ℕ = (at + d) / 2 ^ 17 in
    let q : ℕ = x / 2 ^ 17 in
    let a : low * 2 ^ 17 ≤ at - d = cell-from (at - d) 17 in
    let b : at - d < low * 2 ^ 17 + 2 ^ 17 = cell-to (at - d) 17 in
    let c : high * 2 ^ 17 ≤ at + d = cell-from (at + d) 17 in
    let e : at + d < high * 2 ^ 17 + 2 ^ 17 = cell-to (at + d) 17 in
    let f : q * 2 ^ 17 ≤ x = cell-from x 17 in
    let g : x < q * 2 ^ 17 + 2 ^ 17 = cell-to x 17 in
    ⊎_elim
    (λ (lt : low < q). inr (omega (arith, a, b, c, e, f, g, lt, most, near)))
    (λ (le : q ≤ low). inl (omega (arith, a, b, c, e, f, g, le, most, near)))
    (cases_lt low q)

-- the cell of the highest level with a column and a row
abbrev pub top_cell : ℕ → ℕ → Cell
top_cell column row = record { level = 17; column = column; row = row }

pub is-top : (p : GridPoint) (column row : ℕ) → p.column / 2 ^ 17 ≡ column → p.row / 2 ^ 17 ≡ row → top_cell column row ≡ cell_of 17 p
is-top p column row e f = sym (ap (λ k. top_cell k (p.row / 2 ^ 17)) e ∙ ap (top_cell column) f)
