-- What the parameters of a query mean together (OGC 06-042, 7.2 to 7.4; docs/WMS.md, "Queries").
use Rattle.std.specs.Prelude.{ℕ, List, [], ◌∷◌, length, Option, Result, Ok, option_and_then}
use Rattle.std.specs.Option.{option_map_or}
use Rattle.std.specs.Result.{result_ok, result_err}
use Rattle.crsaxes.specs.declared.crs.Crs.{Crs}
use Rattle.geom.specs.World.{Area}
use Rattle.operations.specs.declared.operation.Operation.{Operation}
use Rattle.mapdefs.specs.declared.colour.Rgb.{Rgb}
use Rattle.mapdefs.specs.declared.map.MapFields.{MapFields}
use Rattle.wmsquery.specs.declared.fault.Code.{Code}
use Rattle.wmsquery.specs.declared.fault.Parameter.{Parameter}
use Rattle.wmsquery.specs.declared.fault.Parameter.TheVariants as parameter
use Rattle.wmsquery.specs.declared.request.Format.{Format}
use Rattle.wmsquery.specs.Order.{order}
use Rattle.wmsquery.specs.Pairs.{Texts, given, names_of}
use Rattle.wmsquery.specs.Values.{service_of, operation_of, version_of, layers_of, styles_of, system_of, area_of, metres_of, side_of, format_of, transparent_of, background_of, background_for, asked_of, info_format_of, feature_count_of, pixel_of, sequence_of}
use Rattle.mapdefs.specs.Outcome.{and_then}

-- the names of the layers that LAYERS lists
abbrev pub layer_names : Texts → List (List ℕ)
layer_names t = names_of (given t parameter.Layers)

-- the coordinate reference system that CRS means
abbrev pub system_in : MapFields → Texts → Result Crs Code
system_in map t = system_of map.mercator (given t parameter.Crs)

-- the area that BBOX means in that system
abbrev pub area_in : MapFields → Texts → Result Area Code
area_in map t = and_then (system_in map t) (λ crs. area_of crs (given t parameter.Bbox))

-- how wide that area is in millionths of a metre, if the system is in metres
abbrev pub metres_in : MapFields → Texts → Option ℕ
metres_in map t = option_and_then (λ crs. metres_of crs (given t parameter.Bbox)) (result_ok (system_in map t))

-- the operation that REQUEST means
abbrev pub operation_in : Texts → Result Operation Code
operation_in t = operation_of (given t parameter.Request)

-- what STYLES means for the layers of LAYERS, in the operation of REQUEST
abbrev pub styles_in : Texts → Result (Unit {0}) Code
styles_in t = and_then (operation_in t) (λ o. styles_of o (length (layer_names t)) (t parameter.Styles))

-- the format that FORMAT means, in the operation of REQUEST
abbrev pub format_in : MapFields → Texts → Result Format Code
format_in map t = and_then (operation_in t) (λ o. format_of map.png o (given t parameter.Format))

-- the background that FORMAT, TRANSPARENT and BGCOLOR mean
abbrev pub background_in : MapFields → Texts → Result (Option Rgb) Code
background_in map t =
    and_then (format_in map t) (λ format.
    and_then (transparent_of (given t parameter.Transparent)) (λ transparent.
    and_then (background_of (given t parameter.Bgcolor)) (λ colour.
    Ok (background_for format transparent colour))))

-- the layers that QUERY_LAYERS lists, which are among those of LAYERS
abbrev pub asked_in : MapFields → Texts → Result (List ℕ) Code
asked_in map t = asked_of map (layer_names t) (names_of (given t parameter.QueryLayers))

-- the column that I means in a picture of WIDTH
abbrev pub column_in : Texts → Result ℕ Code
column_in t = and_then (side_of (given t parameter.Width)) (λ width. pixel_of width (given t parameter.Column))

-- the row that J means in a picture of HEIGHT
abbrev pub row_in : Texts → Result ℕ Code
row_in t = and_then (side_of (given t parameter.Height)) (λ height. pixel_of height (given t parameter.Row))

-- the code that refuses a parameter of a query of a map at a sequence, if there is one
abbrev pub refusal : MapFields → ℕ → Texts → Parameter → Option Code
refusal map sequence t parameter.Service = result_err (service_of (given t parameter.Service))
refusal map sequence t parameter.Request = result_err (operation_in t)
refusal map sequence t parameter.Version = result_err (version_of (given t parameter.Version))
refusal map sequence t parameter.Layers = result_err (layers_of map (layer_names t))
refusal map sequence t parameter.Styles = result_err (styles_in t)
refusal map sequence t parameter.Crs = result_err (system_in map t)
refusal map sequence t parameter.Bbox = result_err (area_in map t)
refusal map sequence t parameter.Width = result_err (side_of (given t parameter.Width))
refusal map sequence t parameter.Height = result_err (side_of (given t parameter.Height))
refusal map sequence t parameter.Format = result_err (format_in map t)
refusal map sequence t parameter.Transparent = result_err (transparent_of (given t parameter.Transparent))
refusal map sequence t parameter.Bgcolor = result_err (background_of (given t parameter.Bgcolor))
refusal map sequence t parameter.QueryLayers = result_err (asked_in map t)
refusal map sequence t parameter.InfoFormat = result_err (info_format_of (given t parameter.InfoFormat))
refusal map sequence t parameter.FeatureCount = result_err (feature_count_of (given t parameter.FeatureCount))
refusal map sequence t parameter.Column = result_err (column_in t)
refusal map sequence t parameter.Row = result_err (row_in t)
refusal map sequence t parameter.UpdateSequence = result_err (sequence_of sequence (given t parameter.UpdateSequence))

-- the parameters of a query in the order of refusal: SERVICE and REQUEST, and then those of its operation
abbrev pub looked_at : Texts → List Parameter
looked_at t = parameter.Service ∷ parameter.Request ∷ option_map_or order (result_ok (operation_in t)) []
