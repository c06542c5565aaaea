-- Items that parts of an expression look at, where the parts are joined, or come after a NOT.
use Rattle.std.proofs.Common.{◌≡◌, ℕ, Bool, ◌||◌, true, false, List, refl, ◌∙◌, ap}
use Rattle.std.specs.List.{list_any}
use mathlib.Core.Former.{Count}
use Rattle.mapdefs.specs.declared.expr.Expr.{Expr, Or', And', Not', Row_of-Expr, end_of-Expr, more_of-Expr, items-the_row-Expr, items_hidden-the_row-Expr-0, items_hidden-the_row-Expr-1}
use Rattle.mapdefs.specs.declared.expr.Expr.TheVariants.{Or, And, Not}
use Rattle.mapwarnings.specs.Unused.{lacks_in, some_lacks}

or-false : (b : Bool) → (b || false) ≡ b
or-false true = refl
or-false false = refl

module _ (items : List (List ℕ)) where
  some-list : (n : _) (row : Row_of-Expr n) → some_lacks items row ≡ list_any (lacks_in items) (items-the_row-Expr n row)
  some-list n end_of-Expr = refl
  some-list n (more_of-Expr part rest) = rw (some-list _ rest)

  abbrev row_of : Expr → (n : Count) × Row_of-Expr n
  row_of (Or' _ row) = (_, row)
  row_of (And' _ row) = (_, row)
  row_of (Not' _ row) = (_, row)
  row_of _ = (_, end_of-Expr)

  pub lacks-or : (parts : List Expr) → lacks_in items (Or parts) ≡ list_any (lacks_in items) parts
  lacks-or parts =
      let row = row_of (Or parts) in
      some-list row.0 row.1 ∙ ap (list_any (lacks_in items)) (items_hidden-the_row-Expr-0 parts)

  pub lacks-and : (parts : List Expr) → lacks_in items (And parts) ≡ list_any (lacks_in items) parts
  lacks-and parts =
      let row = row_of (And parts) in
      some-list row.0 row.1 ∙ ap (list_any (lacks_in items)) (items_hidden-the_row-Expr-0 parts)

  pub lacks-not : (part : Expr) → lacks_in items (Not part) ≡ lacks_in items part
  lacks-not part =
      let row = row_of (Not part) in
      some-list row.0 row.1 ∙ ap (list_any (lacks_in items)) (items_hidden-the_row-Expr-1 part) ∙ or-false (lacks_in items part)
