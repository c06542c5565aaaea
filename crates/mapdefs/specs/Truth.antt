-- Which rules are true of a feature (docs/MAPFILE.md, "Expressions").
use Rattle.std.specs.Prelude.{ℕ, ℤ, Bool, true, false, not, ◌==◌, ◌&&◌, ◌||◌, if◌then◌else◌, List, [], Option, Some, position, unwrap_or, slice_get}
use Rattle.std.specs.Cmp.Lexicographic.{slice_cmp}
use Rattle.std.specs.List.{list_any, slice_split}
use Rattle.std.specs.Option.{option_map_or}
use Rattle.std.specs.Ordering.{nat_cmp, int_cmp, is_eq, is_ne, is_lt, is_gt, is_le, is_ge}
use Rattle.std.specs.declared.cmp.Ordering.{Ordering}
use Rattle.std.specs.Result.{result_ok}
use Rattle.std.specs.Str.{str_eq_ignore_ascii_case}
use Rattle.geom.specs.Decimal.{reading}
use Rattle.geom.specs.declared.micro.TheConstants.{NUMBER_LIMIT}
use Rattle.mapdefs.specs.Name.{is_same_name}
use Rattle.mapdefs.specs.declared.expr.Comparison.{Comparison}
use Rattle.mapdefs.specs.declared.expr.Comparison.TheVariants as comparison
use Rattle.mapdefs.specs.declared.expr.Operand.{Operand}
use Rattle.mapdefs.specs.declared.expr.Operand.TheVariants as operand
use Rattle.mapdefs.specs.declared.expr.Expr.{Expr, Or', And', Not', Compare, Row_of-Expr, end_of-Expr, more_of-Expr}

-- the value of the first item of this name, without regard to case of ASCII letters, or the empty text where there is none
abbrev pub item_value : List (List ℕ) → List (List ℕ) → List ℕ → List ℕ
item_value items values name =
    option_map_or (λ index. unwrap_or (slice_get values index) []) (position (λ item. str_eq_ignore_ascii_case item name) items) []

-- the text of a side: a number's as it is written
abbrev pub text_of : List (List ℕ) → List (List ℕ) → Operand → List ℕ
text_of items values (operand.Number number text) = text
text_of items values (operand.Item name) = item_value items values name
text_of items values (operand.ItemText name) = item_value items values name
text_of items values (operand.Text text) = text

-- whether a side requires numbers: a number, or an item without quotes
abbrev pub asks_numbers : Operand → Bool
asks_numbers (operand.Number number text) = true
asks_numbers (operand.Item name) = true
asks_numbers _ = false

-- the number of a side, if it has one
abbrev pub number_of : List (List ℕ) → List (List ℕ) → Operand → Option ℤ
number_of items values (operand.Number number text) = Some number
number_of items values side = result_ok (reading (text_of items values side) NUMBER_LIMIT)

-- whether a comparison is true of sides in this order
abbrev pub accepts : Comparison → Ordering → Bool
accepts comparison.Equal order = is_eq order
accepts comparison.NotEqual order = is_ne order
accepts comparison.Less order = is_lt order
accepts comparison.Greater order = is_gt order
accepts comparison.AtMost order = is_le order
accepts comparison.AtLeast order = is_ge order
accepts _ order = false

-- of two numbers, where both are present
abbrev pub is_true_of_numbers : Comparison → Option ℤ → Option ℤ → Bool
is_true_of_numbers how (Some a) (Some b) = accepts how (int_cmp a b)
is_true_of_numbers how _ _ = false

-- of two texts: by their order byte by byte, without regard to case of ASCII letters, or as one of the right one's parts between commas
abbrev pub is_true_of_texts : Comparison → List ℕ → List ℕ → Bool
is_true_of_texts comparison.EqualIgnoringCase a b = str_eq_ignore_ascii_case a b
is_true_of_texts comparison.In a b = list_any (λ part. is_same_name part a) (slice_split (λ c. c == 44) b)
is_true_of_texts how a b = accepts how (slice_cmp nat_cmp a b)

-- whether a comparison is of texts whatever its sides are
abbrev pub is_of_texts : Comparison → Bool
is_of_texts comparison.EqualIgnoringCase = true
is_of_texts comparison.In = true
is_of_texts _ = false

-- a comparison is of numbers where one of its sides requires them, else of texts
abbrev pub is_true : List (List ℕ) → List (List ℕ) → Comparison → Operand → Operand → Bool
is_true items values how left right =
    if not (is_of_texts how) && (asks_numbers left || asks_numbers right)
    then is_true_of_numbers how (number_of items values left) (number_of items values right)
    else is_true_of_texts how (text_of items values left) (text_of items values right)

-- Whether an expression is true of a feature, by its items' names and values.
abbrev mutual
  pub truth : List (List ℕ) → List (List ℕ) → Expr → Bool
  truth items values (Or' shape parts) = some_are_true items values parts
  truth items values (And' shape parts) = all_are_true items values parts
  truth items values (Not' shape part) = not (all_are_true items values part)
  truth items values (Compare how left right) = is_true items values how left right

  -- some part is true
  pub some_are_true : {shape : _} → List (List ℕ) → List (List ℕ) → Row_of-Expr shape → Bool
  some_are_true items values end_of-Expr = false
  some_are_true items values (more_of-Expr part rest) = truth items values part || some_are_true items values rest

  -- each part is true; the operand of a NOT is a row of one part
  pub all_are_true : {shape : _} → List (List ℕ) → List (List ℕ) → Row_of-Expr shape → Bool
  all_are_true items values end_of-Expr = true
  all_are_true items values (more_of-Expr part rest) = truth items values part && all_are_true items values rest
