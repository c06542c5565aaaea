-- The crossings that reach a pixel, counted.
use Rattle.std.proofs.Common.{◌≡◌, ◌∙◌, ℕ, suc, ◌+◌, ◌<◌, ◌≤◌, Bool, false, ◌&&◌, cond, List, [], ◌∷◌, length, get_or, take, drop, refl, ap, arith, ⊎_elim}
use Rattle.std.proofs.lemmas.Bool.{and_left, and_right, cases_lt, le-ltb, lt-leb}
use Rattle.std.proofs.lemmas.List.{get_or-take, get_or-drop, length-take, length-drop}
use Rattle.std.proofs.lemmas.List.Sums.{sum_by-cons, sum_by-take-drop}
use Rattle.std.specs.List.{count_by}
use Rattle.std.specs.Prelude.{int_le, nat_le, nat_lt}
use lib.IntN.{pos}
use Rattle.scanfill.specs.Column.{column_of}
use Rattle.scanfill.specs.Crossing.{AreOrdered, end_of, reaches, row_of}
use Rattle.scanfill.specs.declared.crossing.Crossing.{Crossing}
use Rattle.scanfill.specs.declared.crossing.Crossing.TheVariants as crossing

-- where none passes none is counted
pub count-none : {X : Type 0} (p : X → Bool) (xs : List X) → ((k : ℕ) (d : X) → k < length xs → p (get_or xs k d) ≡ false) → count_by p xs ≡ 0
count-none p [] none = refl
count-none p (x ∷ xs) none =
    let first : p x ≡ false = none 0 x (omega arith) in
    sum_by-cons (λ y. cond (p y) 1 0) x xs ∙ rw (first, count-none p xs (λ k d h. none (suc k) d (omega arith)))

-- a crossing reaches no row before its own, and none from its end on
pub reaches-early : (i j : ℕ) (c : Crossing) → j < row_of c → reaches i j c ≡ false
reaches-early i j (crossing.Left rows) h = and_left (nat_le rows.from j) (nat_lt j rows.to) (lt-leb rows.from j h)
reaches-early i j (crossing.Walk walk) h =
    and_left (nat_le walk.row j && nat_lt j walk.end) (int_le (column_of walk.edge j) (pos i)) (and_left (nat_le walk.row j) (nat_lt j walk.end) (lt-leb walk.row j h))

pub reaches-late : (i j : ℕ) (c : Crossing) → end_of c ≤ j → reaches i j c ≡ false
reaches-late i j (crossing.Left rows) h = and_right (nat_le rows.from j) (nat_lt j rows.to) (le-ltb j rows.to h)
reaches-late i j (crossing.Walk walk) h =
    and_left (nat_le walk.row j && nat_lt j walk.end) (int_le (column_of walk.edge j) (pos i)) (and_right (nat_le walk.row j) (nat_lt j walk.end) (le-ltb j walk.end h))

-- those that have ended reach nothing
pub count-passed : (list : List Crossing) (row passed begun i : ℕ) → AreOrdered list row passed begun → count_by (reaches i row) (take passed list) ≡ 0
count-passed list row passed begun i o = count-none (reaches i row) (take passed list) (λ k d h.
    let at : k < passed = omega (arith, length-take passed list) in
    ap (reaches i row) (get_or-take passed list k d at) ∙ reaches-late i row (get_or list k d) (o.ended k d at))

-- nor do those that wait
pub count-begun : (list : List Crossing) (row passed begun i : ℕ) → AreOrdered list row passed begun →
    count_by (reaches i row) (take begun list) ≡ count_by (reaches i row) list
count-begun list row passed begun i o =
    let rest : count_by (reaches i row) (drop begun list) ≡ 0 = count-none (reaches i row) (drop begun list) (λ k d h.
    ap (reaches i row) (get_or-drop begun list k d)
    ∙ reaches-early i row (get_or list (begun + k) d) (o.waiting (begun + k) d (omega arith) (omega (arith, length-drop begun list)))) in
    omega (arith, sum_by-take-drop (λ c. cond (reaches i row c) 1 0) list begun)

-- where all have ended or wait until after a row, it is reached by none
pub count-skipped : (list : List Crossing) (row passed begun next i j : ℕ) → AreOrdered list row passed begun → begun ≤ passed → row ≤ j → j < next →
    ((k : ℕ) (d : Crossing) → begun ≤ k → k < length list → next ≤ row_of (get_or list k d)) → count_by (reaches i j) list ≡ 0
count-skipped list row passed begun next i j o none from past waiting = count-none (reaches i j) list (λ k d h. ⊎_elim
    (λ (lt : k < begun). reaches-late i j (get_or list k d) (omega (arith, o.ended k d (omega arith))))
    (λ (ge : begun ≤ k). reaches-early i j (get_or list k d) (omega (arith, waiting k d ge h)))
    (cases_lt k begun))
