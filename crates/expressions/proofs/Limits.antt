-- What is in the grammar is within the limits of a class.
use Rattle.std.proofs.Common.{◌≡◌, ℕ, suc, ◌+◌, ◌-◌, ◌≤◌, List, [], ◌∷◌, length, All, refl, sym, ◌∙◌, ap, subst, arith}
use Rattle.std.proofs.lemmas.List.Elements.{All-nil, All-cons, All-head, All-tail}
use mathlib.Core.Former.{Count}
use Rattle.mapdefs.specs.declared.limits.TheConstants.{MAX_NESTING}
use Rattle.mapdefs.specs.declared.expr.Expr.{Expr, Or', And', Not', Compare, Row_of-Expr, end_of-Expr, more_of-Expr, items-the_row-Expr, items_hidden-the_row-Expr-0, items_hidden-the_row-Expr-1}
use Rattle.mapdefs.specs.declared.expr.Expr.TheVariants.{Or, And, Not}
use Rattle.mapdefs.specs.ClassLimits.{IsExprWithinLimits}
use Rattle.mapdefs.specs.Nesting.{nesting, nesting_after_not, nesting_between_ors, nesting_in_or, nesting_in_and, fewest_parts, fewest_parts_among, part_count}
use Rattle.expressions.specs.Grammar.{IsPart, negated, within, compares, AreBetweenAnds, last_and, and, AreBetweenOrs, last_or, or, all_of, any_of, IsLogic}

-- an expression whose nesting is at most so deep, whatever is round it, and whose ORs and ANDs have two parts
pub record IsShallow (measure : Expr → ℕ) (most : ℕ) (e : Expr) : Type 0 where
  pub depth : measure e ≤ most
  pub parts : 2 ≤ fewest_parts e

abbrev row_of : Expr → (n : Count) × Row_of-Expr n
row_of (Or' _ row) = (_, row)
row_of (And' _ row) = (_, row)
row_of (Not' _ row) = (_, row)
row_of _ = (_, end_of-Expr)

module _ (most : ℕ) where
  in-and : (n : _) (row : Row_of-Expr n) → All (IsShallow nesting_after_not most) (items-the_row-Expr n row) →
      (nesting_in_and row ≤ most) × (2 ≤ fewest_parts_among row) × (part_count row ≡ length (items-the_row-Expr n row))
  in-and n end_of-Expr all = (omega arith, omega arith, refl)
  in-and n (more_of-Expr e rest) all =
      let first = All-head (IsShallow nesting_after_not most) e (items-the_row-Expr _ rest) all in
      let others = in-and _ rest (All-tail (IsShallow nesting_after_not most) e (items-the_row-Expr _ rest) all) in
      (omega (arith, first.depth, others.0), omega (arith, first.parts, others.1), omega (arith, others.2))

  in-or : (n : _) (row : Row_of-Expr n) → All (IsShallow nesting_between_ors most) (items-the_row-Expr n row) →
      (nesting_in_or row ≤ most) × (2 ≤ fewest_parts_among row) × (part_count row ≡ length (items-the_row-Expr n row))
  in-or n end_of-Expr all = (omega arith, omega arith, refl)
  in-or n (more_of-Expr e rest) all =
      let first = All-head (IsShallow nesting_between_ors most) e (items-the_row-Expr _ rest) all in
      let others = in-or _ rest (All-tail (IsShallow nesting_between_ors most) e (items-the_row-Expr _ rest) all) in
      (omega (arith, first.depth, others.0), omega (arith, first.parts, others.1), omega (arith, others.2))

  -- a bracket or a NOT more or less
  less-between : (e : Expr) → nesting_between_ors e ≤ nesting_after_not e
  less-between (Or' shape parts) = omega arith
  less-between (And' shape parts) = omega arith
  less-between (Not' shape parts) = omega arith
  less-between (Compare how a b) = omega arith

  less-alone : (e : Expr) → nesting e ≤ nesting_between_ors e
  less-alone (Or' shape parts) = omega arith
  less-alone (And' shape parts) = omega arith
  less-alone (Not' shape parts) = omega arith
  less-alone (Compare how a b) = omega arith

  one-more : (e : Expr) → nesting_after_not e ≤ 1 + nesting e
  one-more (Or' shape parts) = omega arith
  one-more (And' shape parts) = omega arith
  one-more (Not' shape parts) = omega arith
  one-more (Compare how a b) = omega arith

  and-shallow : (es : List Expr) → 2 ≤ length es → All (IsShallow nesting_after_not most) es → IsShallow nesting_between_ors most (And es)
  and-shallow es two all =
      let row = row_of (And es) in
      let same = items_hidden-the_row-Expr-0 es in
      let found = in-and row.0 row.1 (subst (All (IsShallow nesting_after_not most)) (sym same) all) in
      let count : part_count row.1 ≡ length es = found.2 ∙ ap length same in
      record { depth = found.0; parts = omega (arith, found.1, count, two) }

  or-shallow : (es : List Expr) → 2 ≤ length es → All (IsShallow nesting_between_ors most) es → IsShallow nesting most (Or es)
  or-shallow es two all =
      let row = row_of (Or es) in
      let same = items_hidden-the_row-Expr-0 es in
      let found = in-or row.0 row.1 (subst (All (IsShallow nesting_between_ors most)) (sym same) all) in
      let count : part_count row.1 ≡ length es = found.2 ∙ ap length same in
      record { depth = found.0; parts = omega (arith, found.1, count, two) }

  not-shallow : (e : Expr) → IsShallow nesting_after_not most e → IsShallow nesting_after_not (suc most) (Not e)
  not-shallow e is =
      let row = row_of (Not e) in
      let same = items_hidden-the_row-Expr-1 e in
      let found = in-and row.0 row.1 (subst (All (IsShallow nesting_after_not most)) (sym same) (All-cons (IsShallow nesting_after_not most) e [] is (All-nil (IsShallow nesting_after_not most)))) in
      record { depth = omega (arith, found.0); parts = found.1 }

  all_of-shallow : (es : List Expr) → 1 ≤ length es → All (IsShallow nesting_after_not most) es → IsShallow nesting_between_ors most (all_of es)
  all_of-shallow [] some all = absurd (omega arith)
  all_of-shallow (e ∷ []) some all =
      let is = All-head (IsShallow nesting_after_not most) e [] all in record { depth = omega (arith, is.depth, less-between e); parts = is.parts }
  all_of-shallow (e ∷ f ∷ es) some all = and-shallow (e ∷ f ∷ es) (omega arith) all

  any_of-shallow : (es : List Expr) → 1 ≤ length es → All (IsShallow nesting_between_ors most) es → IsShallow nesting most (any_of es)
  any_of-shallow [] some all = absurd (omega arith)
  any_of-shallow (e ∷ []) some all =
      let is = All-head (IsShallow nesting_between_ors most) e [] all in record { depth = omega (arith, is.depth, less-alone e); parts = is.parts }
  any_of-shallow (e ∷ f ∷ es) some all = or-shallow (e ∷ f ∷ es) (omega arith) all

mutual
  part-shallow : (n : ℕ) (text : List ℕ) (e : Expr) → IsPart n text e → IsShallow nesting_after_not n e
  part-shallow _ _ _ (negated n word text e w is) = not-shallow n e (part-shallow n text e is)
  part-shallow _ _ _ (within n open_ text close es o is c) =
      let all = ors-shallow n text es is in
      let one = any_of-shallow n es all.0 all.1 in
      record { depth = omega (arith, one.depth, one-more n (any_of es)); parts = one.parts }
  part-shallow _ _ _ (compares n left sign right how a b l s r) = record { depth = omega arith; parts = omega arith }

  ands-shallow : (n : ℕ) (text : List ℕ) (es : List Expr) → AreBetweenAnds n text es → (1 ≤ length es) × All (IsShallow nesting_after_not n) es
  ands-shallow _ _ _ (last_and n text e is) =
      (omega arith, All-cons (IsShallow nesting_after_not n) e [] (part-shallow n text e is) (All-nil (IsShallow nesting_after_not n)))
  ands-shallow _ _ _ (and n text word others e es is w more) =
      (omega arith, All-cons (IsShallow nesting_after_not n) e es (part-shallow n text e is) (ands-shallow n others es more).1)

  ors-shallow : (n : ℕ) (text : List ℕ) (es : List Expr) → AreBetweenOrs n text es → (1 ≤ length es) × All (IsShallow nesting_between_ors n) es
  ors-shallow _ _ _ (last_or n text es is) =
      let all = ands-shallow n text es is in
      (omega arith, All-cons (IsShallow nesting_between_ors n) (all_of es) [] (all_of-shallow n es all.0 all.1) (All-nil (IsShallow nesting_between_ors n)))
  ors-shallow _ _ _ (or n text word others es fs is w more) =
      let all = ands-shallow n text es is in
      (omega arith, All-cons (IsShallow nesting_between_ors n) (all_of es) fs (all_of-shallow n es all.0 all.1) (ors-shallow n others fs more).1)

-- a Logic is within the limits
pub logic-within : (written : List ℕ) (e : Expr) → IsLogic written e → IsExprWithinLimits e
logic-within written e is =
    let all = ors-shallow (MAX_NESTING - 1) is.text is.parts is.ors in
    let one = any_of-shallow (MAX_NESTING - 1) is.parts all.0 all.1 in
    rw is.is (record { nested = omega (arith, one.depth); parts = one.parts })
