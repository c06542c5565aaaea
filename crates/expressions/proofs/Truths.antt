-- The truth of parts that are joined, and of the operand of a NOT.
use Rattle.std.proofs.Common.{◌≡◌, ℕ, Bool, not, ◌&&◌, true, false, List, refl, ◌∙◌, ap}
use Rattle.std.specs.List.{list_any, list_all}
use mathlib.Core.Former.{Count}
use Rattle.mapdefs.specs.Truth.{truth, some_are_true, all_are_true}
use Rattle.mapdefs.specs.declared.expr.Expr.{Expr, Or', And', Not', Row_of-Expr, end_of-Expr, more_of-Expr, items-the_row-Expr, items_hidden-the_row-Expr-0, items_hidden-the_row-Expr-1}
use Rattle.mapdefs.specs.declared.expr.Expr.TheVariants.{Or, And, Not}

and-true : (b : Bool) → (b && true) ≡ b
and-true true = refl
and-true false = refl

module _ (items values : List (List ℕ)) where
  some-list : (n : _) (row : Row_of-Expr n) → some_are_true items values row ≡ list_any (truth items values) (items-the_row-Expr n row)
  some-list n end_of-Expr = refl
  some-list n (more_of-Expr part rest) = rw (some-list _ rest)

  all-list : (n : _) (row : Row_of-Expr n) → all_are_true items values row ≡ list_all (truth items values) (items-the_row-Expr n row)
  all-list n end_of-Expr = refl
  all-list n (more_of-Expr part rest) = rw (all-list _ rest)

  abbrev row_of : Expr → (n : Count) × Row_of-Expr n
  row_of (Or' _ row) = (_, row)
  row_of (And' _ row) = (_, row)
  row_of (Not' _ row) = (_, row)
  row_of _ = (_, end_of-Expr)

  pub truth-or : (parts : List Expr) → truth items values (Or parts) ≡ list_any (truth items values) parts
  truth-or parts =
      let row = row_of (Or parts) in
      some-list row.0 row.1 ∙ ap (list_any (truth items values)) (items_hidden-the_row-Expr-0 parts)

  pub truth-and : (parts : List Expr) → truth items values (And parts) ≡ list_all (truth items values) parts
  truth-and parts =
      let row = row_of (And parts) in
      all-list row.0 row.1 ∙ ap (list_all (truth items values)) (items_hidden-the_row-Expr-0 parts)

  pub truth-not : (part : Expr) → truth items values (Not part) ≡ not (truth items values part)
  truth-not part =
      let row = row_of (Not part) in
      ap not (all-list row.0 row.1 ∙ ap (list_all (truth items values)) (items_hidden-the_row-Expr-1 part) ∙ and-true (truth items values part))
