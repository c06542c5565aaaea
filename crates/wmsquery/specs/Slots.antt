-- Where the reader keeps the text of each parameter: in a slot of its own.
use Rattle.std.specs.Prelude.{ℕ, List, ◌∷◌, ◌++◌, find, Option, None, Some, if◌then◌else◌}
use Rattle.std.specs.List.{slice_index_or, slice_set}
use Rattle.std.specs.Option.{is_none}
use Rattle.std.specs.Str.{str_eq_ignore_ascii_case}
use Rattle.operations.specs.declared.operation.Operation.TheVariants as operation
use Rattle.wmsquery.specs.declared.fault.Parameter.{Parameter}
use Rattle.wmsquery.specs.declared.fault.Parameter.TheVariants as parameter
use Rattle.wmsquery.specs.Order.{order}
use Rattle.wmsquery.specs.Pairs.{Texts}
use Rattle.wmsquery.specs.Report.{parameter_text}

-- all parameters that the server reads
abbrev pub parameters : List Parameter
parameters = parameter.Service ∷ parameter.Request ∷ order operation.Information ++ order operation.Capabilities

-- the parameter with a name, which is compared without case
abbrev pub parameter_named : List ℕ → Option Parameter
parameter_named name = find (λ p. str_eq_ignore_ascii_case name (parameter_text p)) parameters

-- the index of a parameter's slot
abbrev pub slot_of : Parameter → ℕ
slot_of parameter.Service = 0
slot_of parameter.Request = 1
slot_of parameter.Version = 2
slot_of parameter.Layers = 3
slot_of parameter.Styles = 4
slot_of parameter.Crs = 5
slot_of parameter.Bbox = 6
slot_of parameter.Width = 7
slot_of parameter.Height = 8
slot_of parameter.Format = 9
slot_of parameter.Transparent = 10
slot_of parameter.Bgcolor = 11
slot_of parameter.QueryLayers = 12
slot_of parameter.InfoFormat = 13
slot_of parameter.FeatureCount = 14
slot_of parameter.Column = 15
slot_of parameter.Row = 16
slot_of parameter.UpdateSequence = 17

-- the text that a slot has
abbrev pub kept : List (Option (List ℕ)) → Texts
kept slots p = slice_index_or slots (slot_of p) None

-- the slots with a value for a parameter that has no text yet
abbrev pub with_text : List (Option (List ℕ)) → List ℕ → Option Parameter → List (Option (List ℕ))
with_text slots value None = slots
with_text slots value (Some p) = if is_none (kept slots p) then slice_set slots (slot_of p) (Some value) else slots

-- the slots with a pair
abbrev pub with_pair : List (Option (List ℕ)) → List ℕ → List ℕ → List (Option (List ℕ))
with_pair slots name value = with_text slots value (parameter_named name)
