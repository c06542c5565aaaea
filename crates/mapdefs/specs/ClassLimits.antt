-- How many styles a class has, and how deep its expression is nested (docs/MAPFILE.md, "Limits").
use Rattle.std.specs.Prelude.{◌<◌, ◌≤◌, length}
use Rattle.mapdefs.specs.declared.class.ClassFields.{ClassFields}
use Rattle.mapdefs.specs.declared.class.Rule.{Rule}
use Rattle.mapdefs.specs.declared.class.Rule.TheVariants.{Always, Equals, OneOf, Logic}
use Rattle.mapdefs.specs.declared.expr.Expr.{Expr}
use Rattle.mapdefs.specs.declared.limits.TheConstants.{MAX_STYLES, MAX_NESTING}
use Rattle.mapdefs.specs.Nesting.{nesting, fewest_parts}

-- an OR and an AND have two parts or more, and with the brackets round all there is no deeper nesting than allowed
pub record IsExprWithinLimits (e : Expr) : Type 0 where
  pub nested : nesting e < MAX_NESTING
  pub parts : 2 ≤ fewest_parts e

-- a rule that is an expression is one within the limits; the other rules have none
abbrev pub IsRuleWithinLimits : Rule → Type 0
IsRuleWithinLimits Always = Unit {0}
IsRuleWithinLimits (Equals text) = Unit {0}
IsRuleWithinLimits (OneOf texts) = Unit {0}
IsRuleWithinLimits (Logic e) = IsExprWithinLimits e

-- there are not too many styles, and the rule is within its limits
pub record IsClassWithinLimits (c : ClassFields) : Type 0 where
  pub styles : length c.styles ≤ MAX_STYLES
  pub rule : ∥ IsRuleWithinLimits c.rule ∥₁
