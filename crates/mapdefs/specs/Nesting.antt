-- How deep expressions are nested (docs/MAPFILE.md, "Limits").
use Rattle.std.specs.Prelude.{ℕ, ◌+◌, max, min}
use Rattle.mapdefs.specs.declared.expr.Expr.{Expr, Or', And', Not', Compare, Row_of-Expr, end_of-Expr, more_of-Expr}

-- How many brackets and NOTs are within one another, with no more brackets than the reading needs.
-- It needs them round an OR within an OR, round an OR or an AND within an AND, and round either
-- after a NOT, which has one part.
abbrev mutual
  -- of an expression without a bracket of its own
  pub nesting : Expr → ℕ
  nesting (Or' shape parts) = nesting_in_or parts
  nesting (And' shape parts) = nesting_in_and parts
  nesting (Not' shape parts) = 1 + nesting_in_and parts
  nesting (Compare comparison left right) = 0

  -- of a part of an AND, or after a NOT
  pub nesting_after_not : Expr → ℕ
  nesting_after_not (Or' shape parts) = 1 + nesting_in_or parts
  nesting_after_not (And' shape parts) = 1 + nesting_in_and parts
  nesting_after_not (Not' shape parts) = 1 + nesting_in_and parts
  nesting_after_not (Compare comparison left right) = 0

  -- of a part of an OR
  pub nesting_between_ors : Expr → ℕ
  nesting_between_ors (Or' shape parts) = 1 + nesting_in_or parts
  nesting_between_ors (And' shape parts) = nesting_in_and parts
  nesting_between_ors (Not' shape parts) = 1 + nesting_in_and parts
  nesting_between_ors (Compare comparison left right) = 0

  -- the most among the parts of an OR
  pub nesting_in_or : {shape : _} → Row_of-Expr shape → ℕ
  nesting_in_or end_of-Expr = 0
  nesting_in_or (more_of-Expr part rest) = max (nesting_between_ors part) (nesting_in_or rest)

  -- the most among the parts of an AND
  pub nesting_in_and : {shape : _} → Row_of-Expr shape → ℕ
  nesting_in_and end_of-Expr = 0
  nesting_in_and (more_of-Expr part rest) = max (nesting_after_not part) (nesting_in_and rest)

-- The fewest parts that an OR or an AND has anywhere in an expression, up to two.
abbrev mutual
  -- of an expression, its own parts among them
  pub fewest_parts : Expr → ℕ
  fewest_parts (Or' shape parts) = min (part_count parts) (fewest_parts_among parts)
  fewest_parts (And' shape parts) = min (part_count parts) (fewest_parts_among parts)
  fewest_parts (Not' shape parts) = fewest_parts_among parts
  fewest_parts (Compare comparison left right) = 2

  -- the least among some parts
  pub fewest_parts_among : {shape : _} → Row_of-Expr shape → ℕ
  fewest_parts_among end_of-Expr = 2
  fewest_parts_among (more_of-Expr part rest) = min (fewest_parts part) (fewest_parts_among rest)

  -- how many parts there are
  pub part_count : {shape : _} → Row_of-Expr shape → ℕ
  part_count end_of-Expr = 0
  part_count (more_of-Expr part rest) = 1 + part_count rest
