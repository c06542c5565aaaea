-- The rules of classes as they are written (docs/MAPFILE.md, "Expressions").
use Rattle.std.specs.Prelude.{◌≡◌, ℕ, Bool, false, ◌==◌, if◌then◌else◌, List, [], ◌∷◌, Option, None, Some, option_map}
use Rattle.std.specs.List.{slice_split}
use Rattle.maplex.specs.declared.token.Shape.{Shape}
use Rattle.maplex.specs.declared.token.Shape.TheVariants as shape
use Rattle.mapdefs.specs.declared.class.Rule.{Rule}
use Rattle.mapdefs.specs.declared.class.Rule.TheVariants.{Equals, OneOf, Logic}
use Rattle.expressions.specs.Reading.{logic_of}
use Rattle.mapwords.specs.declared.rule.RuleError.{RuleError}
use Rattle.mapwords.specs.declared.rule.RuleError.TheVariants.{NoExpression, NoMemory}

-- a byte is a comma
abbrev pub is_comma : ℕ → Bool
is_comma byte = byte == 44

-- a bare word that begins with a slash would be a regular expression
abbrev pub is_regex : List ℕ → Bool
is_regex [] = false
is_regex (byte ∷ bytes) = byte == 47

-- A bare word and a quoted text are the value that the class item has to have. A List has such values between commas. A
-- Logic is the tree to which the grammar of expressions relates it.
abbrev pub rule_of : Shape → List ℕ → Option Rule
rule_of shape.Word text = if is_regex text then None else Some (Equals text)
rule_of shape.Text text = Some (Equals text)
rule_of shape.List text = Some (OneOf (slice_split is_comma text))
rule_of shape.Logic text = option_map (λ e. Logic e) (logic_of text)

-- the error of reading a rule: there is none, or memory was refused
abbrev pub IsRuleErrorOf : Option Rule → RuleError → Type 0
IsRuleErrorOf rule NoExpression = rule ≡ None
IsRuleErrorOf rule NoMemory = Unit {0}
