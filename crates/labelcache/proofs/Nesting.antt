-- Cells within cells, and how far the points are that they contain.
use Rattle.std.proofs.Common.{◌≡◌, ℕ, suc, ◌+◌, ◌-◌, ◌*◌, ◌/◌, ◌%◌, ◌^◌, ◌<◌, ◌≤◌, sym, ◌∙◌, ap, subst, ⊎_elim, inl, inr, arith}
use Rattle.std.proofs.Math.Nat.{div-mul-le_self, lt-div-mul-add, mod-lt, mul_assoc, mul_comm, one-le-pow, pow-suc}
use Rattle.std.proofs.lemmas.Bool.{cases_lt}
use Rattle.std.proofs.lemmas.Nat.{mul-le, shr-shr, shr_split}
use Rattle.std.specs.Prelude.{◌⊎◌}
use Rattle.labelcache.specs.Candidate.{square}
use Rattle.labelcache.specs.Cells.{cell_of, child_of}
use Rattle.labelcache.specs.declared.cells.Cell.{Cell}
use Rattle.labelcache.specs.declared.cells.GridPoint.{GridPoint}

-- a side has at least one pixel
pub side-some : (level : ℕ) → 1 ≤ 2 ^ level
side-some level = one-le-pow level 2 (omega arith)

-- a column or row is one of its cell's
pub cell-from : (x level : ℕ) → x / 2 ^ level * 2 ^ level ≤ x
cell-from x level = div-mul-le_self x (2 ^ level)

pub cell-to : (x level : ℕ) → x < x / 2 ^ level * 2 ^ level + 2 ^ level
cell-to x level = lt-div-mul-add (side-some level)

-- shorter legs of a right angle give a shorter distance
pub nearer : (a b x y d : ℕ) → a ≤ x → b ≤ y → square x + square y < d → square a + square b < d
nearer a b x y d h k lt = let m = mul-le a a x x h h in let n = mul-le b b y y k k in omega (arith, m, n, lt)

parts : (q c r : ℕ) → c * 2 + r ≡ q → r < 2 → (q ≡ 2 * c + 0) ⊎ (q ≡ 2 * c + 1)
parts q c r e lt = ⊎_elim
    (λ (h : r < 1). inl (omega (arith, e, h)))
    (λ (h : 1 ≤ r). inr (omega (arith, e, h, lt)))
    (cases_lt r 1)

-- an index of a level is twice that of the next level, or one more
pub halved : (x level : ℕ) → (x / 2 ^ level ≡ 2 * (x / 2 ^ (level + 1)) + 0) ⊎ (x / 2 ^ level ≡ 2 * (x / 2 ^ (level + 1)) + 1)
halved x level =
    let q : ℕ = x / 2 ^ level in
    let split : q / 2 ^ 1 * 2 ^ 1 + q % 2 ^ 1 ≡ q = shr_split q 1 in
    let less : q % 2 ^ 1 < 2 = mod-lt q (omega arith) in
    parts q (x / 2 ^ (level + 1)) (q % 2 ^ 1) (rw (shr-shr x level 1) at split) less

same : (p : GridPoint) (level a b : ℕ) → p.column / 2 ^ level ≡ 2 * (p.column / 2 ^ (level + 1)) + a →
    p.row / 2 ^ level ≡ 2 * (p.row / 2 ^ (level + 1)) + b → child_of (cell_of (level + 1) p) a b ≡ cell_of level p
same p level a b column row =
    let l : level ≡ level + 1 - 1 = omega arith in
    sym (ap (λ (k : ℕ). record { level = k; column = p.column / 2 ^ level; row = p.row / 2 ^ level }) l
    ∙ ap (λ (k : ℕ). record { level = level + 1 - 1; column = k; row = p.row / 2 ^ level }) column
    ∙ ap (λ (k : ℕ). record { level = level + 1 - 1; column = 2 * (p.column / 2 ^ (level + 1)) + a; row = k }) row)

-- the cell is one of the quarters of another
abbrev pub IsQuarter : Cell → Cell → Type 0
IsQuarter cell whole =
    ((child_of whole 0 0 ≡ cell) ⊎ (child_of whole 1 0 ≡ cell)) ⊎ ((child_of whole 0 1 ≡ cell) ⊎ (child_of whole 1 1 ≡ cell))

-- a cell of a lower level is a quarter of that of the next level
quarters : (p : GridPoint) (level : ℕ) → IsQuarter (cell_of level p) (cell_of (level + 1) p)
quarters p level = ⊎_elim
    (λ r. ⊎_elim (λ q. inl (inl (same p level 0 0 q r))) (λ q. inl (inr (same p level 1 0 q r))) (halved p.column level))
    (λ r. ⊎_elim (λ q. inr (inl (same p level 0 1 q r))) (λ q. inr (inr (same p level 1 1 q r))) (halved p.column level))
    (halved p.row level)

pub in-quarter : (cell : Cell) (p : GridPoint) → 0 < cell.level → cell ≡ cell_of cell.level p → IsQuarter (cell_of (cell.level - 1) p) cell
in-quarter cell p some is =
    let l : cell.level - 1 + 1 ≡ cell.level = omega (arith, some) in
    let whole : cell_of (cell.level - 1 + 1) p ≡ cell = ap (λ (k : ℕ). cell_of k p) l ∙ sym is in
    subst (λ (w : Cell). IsQuarter (cell_of (cell.level - 1) p) w) whole (quarters p (cell.level - 1))

-- a quarter ends where its cell ends, or before it
pub child-within : (c a level most : ℕ) → 0 < level → a ≤ 1 → (c + 1) * 2 ^ level ≤ most → (2 * c + a + 1) * 2 ^ (level - 1) ≤ most
child-within c a level most some le h =
    let s : ℕ = 2 ^ (level - 1) in
    let l : level ≡ suc (level - 1) = omega (arith, some) in
    let double : 2 ^ level ≡ s * 2 = ap (λ (k : ℕ). 2 ^ k) l ∙ pow-suc 2 (level - 1) in
    let product : (c + 1) * (s * 2) ≡ (c + 1) * 2 * s = ap (λ (k : ℕ). (c + 1) * k) (mul_comm s 2) ∙ sym (mul_assoc (c + 1) 2 s) in
    let less : (2 * c + a + 1) * s ≤ (c + 1) * 2 * s = mul-le (2 * c + a + 1) s ((c + 1) * 2) s (omega (arith, le)) (omega arith) in
    let whole : (c + 1) * 2 * s ≤ most = rw (double, product) at h in
    omega (arith, less, whole)

-- there are no more cells before it than pixels
pub index-below : (c level most : ℕ) → (c + 1) * 2 ^ level ≤ most → c ≤ most
index-below c level most h =
    let m : (c + 1) * 1 ≤ (c + 1) * 2 ^ level = mul-le (c + 1) 1 (c + 1) (2 ^ level) (omega arith) (side-some level) in
    omega (arith, m, h)
