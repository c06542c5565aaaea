-- What in a layer has no effect, since something that it needs is missing (docs/MAPFILE.md, "Warnings").
use Rattle.std.specs.Prelude.{◌==◌, ◌&&◌, ◌||◌, not, ℕ, Bool, false, List, length, Option, None, Some, is_none}
use Rattle.std.specs.List.{list_any}
use Rattle.std.specs.Option.{option_map_or}
use Rattle.std.specs.Str.{str_eq_ignore_ascii_case}
use Rattle.mapdefs.specs.declared.class.ClassFields.{ClassFields}
use Rattle.mapdefs.specs.declared.class.Rule.{Rule}
use Rattle.mapdefs.specs.declared.class.Rule.TheVariants.{Logic}
use Rattle.mapdefs.specs.declared.expr.Expr.{Expr, Or', And', Not', Compare, Row_of-Expr, end_of-Expr, more_of-Expr}
use Rattle.mapdefs.specs.declared.expr.Operand.{Operand}
use Rattle.mapdefs.specs.declared.expr.Operand.TheVariants as operand
use Rattle.mapdefs.specs.declared.label.LabelFields.{LabelFields}
use Rattle.mapdefs.specs.declared.layer.LayerFields.{LayerFields}

-- one of some items has this name, without regard to case of ASCII letters
abbrev pub has_item : List (List ℕ) → List ℕ → Bool
has_item items name = list_any (λ item. str_eq_ignore_ascii_case item name) items

-- an item is named, and none of the items has that name
abbrev pub lacks_named : List (List ℕ) → Option (List ℕ) → Bool
lacks_named items None = false
lacks_named items (Some name) = not (has_item items name)

-- a side of a comparison looks at a missing item
abbrev pub lacks_side : List (List ℕ) → Operand → Bool
lacks_side items (operand.Item name) = not (has_item items name)
lacks_side items (operand.ItemText name) = not (has_item items name)
lacks_side items side = false

-- an expression looks at a missing item
abbrev mutual
  pub lacks_in : List (List ℕ) → Expr → Bool
  lacks_in items (Or' shape parts) = some_lacks items parts
  lacks_in items (And' shape parts) = some_lacks items parts
  lacks_in items (Not' shape part) = some_lacks items part
  lacks_in items (Compare how left right) = lacks_side items left || lacks_side items right

  -- one of its parts does; the operand of a NOT is a row of one part
  pub some_lacks : {shape : _} → List (List ℕ) → Row_of-Expr shape → Bool
  some_lacks items end_of-Expr = false
  some_lacks items (more_of-Expr part rest) = lacks_in items part || some_lacks items rest

-- the expression of a class does
abbrev pub lacks_of_rule : List (List ℕ) → Rule → Bool
lacks_of_rule items (Logic e) = lacks_in items e
lacks_of_rule items rule = false

-- a class has a label without a font
abbrev pub is_fontless : ClassFields → Bool
is_fontless class = option_map_or (λ (label : LabelFields). is_none label.font) class.label false

-- a class has a label whose FONT is none of the map's
abbrev pub lacks_font : ClassFields → Bool
lacks_font class = option_map_or (λ (label : LabelFields). label.lacks_font) class.label false

-- a class paints and labels nothing
abbrev pub is_bare : ClassFields → Bool
is_bare class = (length class.styles == 0) && is_none class.label

-- a layer has features, and no class that they could be of
abbrev pub is_unclassed : LayerFields → Bool
is_unclassed layer = not (length layer.features == 0) && (length layer.classes == 0)
