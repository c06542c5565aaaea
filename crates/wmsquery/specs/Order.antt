-- The order of refusal: which parameters an operation has, and which of them is at fault (OGC 06-042, 7.2 to 7.4; docs/WMS.md, "Queries").
use Rattle.std.specs.Prelude.{List, [], ◌∷◌, ◌++◌, Option, None, Some}
use Rattle.operations.specs.declared.operation.Operation.TheVariants as operation
use Rattle.operations.specs.declared.operation.Operation.{Operation}
use Rattle.wmsquery.specs.declared.fault.Code.{Code}
use Rattle.wmsquery.specs.declared.fault.Parameter.{Parameter}
use Rattle.wmsquery.specs.declared.fault.Parameter.TheVariants as parameter
use Rattle.wmsquery.specs.declared.fault.WmsFault.{WmsFault}

-- the parameters of GetMap, in the order of refusal
abbrev pub map_order : List Parameter
map_order =
    parameter.Version ∷ parameter.Layers ∷ parameter.Styles ∷ parameter.Crs ∷ parameter.Bbox ∷ parameter.Width ∷ parameter.Height
    ∷ parameter.Format ∷ parameter.Transparent ∷ parameter.Bgcolor ∷ []

-- the parameters that GetFeatureInfo has after these
abbrev pub information_order : List Parameter
information_order = parameter.QueryLayers ∷ parameter.InfoFormat ∷ parameter.FeatureCount ∷ parameter.Column ∷ parameter.Row ∷ []

-- the parameters of an operation, after SERVICE and REQUEST
abbrev pub order : Operation → List Parameter
order operation.Capabilities = parameter.UpdateSequence ∷ []
order operation.Map = map_order
order operation.Information = map_order ++ information_order

-- the fault of a parameter that is refused, else the fault of those after it
abbrev pub first_of : Parameter → Option Code → Option WmsFault → Option WmsFault
first_of p (Some code) later = Some (record { code = code; parameter = p })
first_of p None later = later

-- the fault of the first parameter that is refused, if one is
abbrev pub first_fault : (Parameter → Option Code) → List Parameter → Option WmsFault
first_fault refusal [] = None
first_fault refusal (p ∷ ps) = first_of p (refusal p) (first_fault refusal ps)
