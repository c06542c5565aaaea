-- The reader's own account of a query: it checks one parameter after another, and stops at the first that is refused.
use Rattle.std.specs.Prelude.{◌≡◌, ℕ, List, length, Result, Ok, Err}
use Rattle.operations.specs.declared.operation.Operation.TheVariants as operation
use Rattle.operations.specs.declared.operation.Operation.{Operation}
use Rattle.mapdefs.specs.declared.map.MapFields.{MapFields}
use Rattle.wmsquery.specs.declared.error.QueryError.{QueryError}
use Rattle.wmsquery.specs.declared.error.QueryError.TheVariants.{Fault, NoMemory}
use Rattle.wmsquery.specs.declared.fault.Code.{Code}
use Rattle.wmsquery.specs.declared.fault.Parameter.{Parameter}
use Rattle.wmsquery.specs.declared.fault.Parameter.TheVariants as parameter
use Rattle.wmsquery.specs.declared.fault.WmsFault.{WmsFault}
use Rattle.wmsquery.specs.declared.picture.Viewport.{Viewport}
use Rattle.wmsquery.specs.declared.picture.Output.{Output}
use Rattle.wmsquery.specs.declared.information.QueriedPixel.{QueriedPixel}
use Rattle.wmsquery.specs.declared.request.InformationRequest.{InformationRequest}
use Rattle.wmsquery.specs.declared.request.MapRequest.{MapRequest}
use Rattle.wmsquery.specs.declared.request.Request.{Request}
use Rattle.wmsquery.specs.declared.request.Request.TheVariants as request
use Rattle.wmsquery.specs.Pairs.{Texts, given}
use Rattle.wmsquery.specs.Query.{layer_names, asked_in}
use Rattle.wmsquery.specs.Values.{service_of, operation_of, version_of, layers_of, styles_of, system_of, area_of, metres_of, side_of, format_of, transparent_of, background_of, background_for, info_format_of, feature_count_of, pixel_of, sequence_of}
use Rattle.mapdefs.specs.Outcome.{and_then}

-- what a parameter means, or its refusal as a fault
abbrev pub checked : {X : Type 0} → Parameter → Result X Code → Result X WmsFault
checked p (Ok x) = Ok x
checked p (Err code) = Err (record { code = code; parameter = p })

-- an error is the fault that was found, or refused memory
abbrev pub IsErrorOf : {X : Type 0} → Result X WmsFault → QueryError → Type 0
IsErrorOf found (Fault f) = found ≡ Err f
IsErrorOf found NoMemory = Unit {0}

-- the operation
abbrev pub operation_read : Texts → Result Operation WmsFault
operation_read t =
    and_then (checked parameter.Service (service_of (given t parameter.Service))) (λ _.
    checked parameter.Request (operation_of (given t parameter.Request)))

-- the layers
abbrev pub layers_read : MapFields → Operation → Texts → Result (List ℕ) WmsFault
layers_read map o t =
    and_then (checked parameter.Version (version_of (given t parameter.Version))) (λ _.
    and_then (checked parameter.Layers (layers_of map (layer_names t))) (λ chosen.
    and_then (checked parameter.Styles (styles_of o (length (layer_names t)) (t parameter.Styles))) (λ _.
    Ok chosen)))

-- the area and the sides
abbrev pub viewport_read : MapFields → Texts → Result Viewport WmsFault
viewport_read map t =
    and_then (checked parameter.Crs (system_of map.mercator (given t parameter.Crs))) (λ crs.
    and_then (checked parameter.Bbox (area_of crs (given t parameter.Bbox))) (λ area.
    and_then (checked parameter.Width (side_of (given t parameter.Width))) (λ width.
    and_then (checked parameter.Height (side_of (given t parameter.Height))) (λ height.
    Ok (record { crs = crs; area = area; metres = metres_of crs (given t parameter.Bbox); width = width; height = height })))))

-- the format and the background
abbrev pub output_read : MapFields → Operation → Texts → Result Output WmsFault
output_read map o t =
    and_then (checked parameter.Format (format_of map.png o (given t parameter.Format))) (λ format.
    and_then (checked parameter.Transparent (transparent_of (given t parameter.Transparent))) (λ transparent.
    and_then (checked parameter.Bgcolor (background_of (given t parameter.Bgcolor))) (λ colour.
    Ok (record { format = format; background = background_for format transparent colour }))))

-- the request for a picture, or for a picture's features
abbrev pub map_read : MapFields → Operation → Texts → Result MapRequest WmsFault
map_read map o t =
    and_then (layers_read map o t) (λ chosen.
    and_then (viewport_read map t) (λ viewport.
    and_then (output_read map o t) (λ output.
    Ok (record { chosen = chosen; crs = viewport.crs; area = viewport.area; metres = viewport.metres; width = viewport.width; height = viewport.height; format = output.format; background = output.background }))))

-- the layers whose features are requested
abbrev pub asked_read : MapFields → Texts → Result (List ℕ) WmsFault
asked_read map t =
    and_then (checked parameter.QueryLayers (asked_in map t)) (λ asked.
    and_then (checked parameter.InfoFormat (info_format_of (given t parameter.InfoFormat))) (λ _.
    Ok asked))

-- where features are searched for in a picture of these sides, and how many
abbrev pub pixel_read : ℕ → ℕ → Texts → Result QueriedPixel WmsFault
pixel_read width height t =
    and_then (checked parameter.FeatureCount (feature_count_of (given t parameter.FeatureCount))) (λ count.
    and_then (checked parameter.Column (pixel_of width (given t parameter.Column))) (λ column.
    and_then (checked parameter.Row (pixel_of height (given t parameter.Row))) (λ row.
    Ok (record { count = count; column = column; row = row }))))

-- the request for feature information
abbrev pub information_read : MapFields → Texts → Result InformationRequest WmsFault
information_read map t =
    and_then (map_read map operation.Information t) (λ picture.
    and_then (asked_read map t) (λ asked.
    and_then (pixel_read picture.width picture.height t) (λ queried.
    Ok (record { map = picture; layers = asked; count = queried.count; column = queried.column; row = queried.row }))))

-- the request of an operation
abbrev pub own_read : MapFields → ℕ → Texts → Operation → Result Request WmsFault
own_read map sequence t operation.Capabilities =
    and_then (checked parameter.UpdateSequence (sequence_of sequence (given t parameter.UpdateSequence))) (λ _. Ok request.Capabilities)
own_read map sequence t operation.Map = and_then (map_read map operation.Map t) (λ r. Ok (request.Map r))
own_read map sequence t operation.Information = and_then (information_read map t) (λ r. Ok (request.Information r))

-- the request
abbrev pub request_read : MapFields → ℕ → Texts → Result Request WmsFault
request_read map sequence t = and_then (operation_read t) (own_read map sequence t)
