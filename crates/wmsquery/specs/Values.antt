-- What the text of each parameter means, or the code that refuses it (OGC 06-042, 7.2 to 7.4; docs/WMS.md, "Queries").
use Rattle.std.specs.Prelude.{ℕ, ◌==◌, ◌&&◌, ◌||◌, Bool, true, false, not, slice_get, nat_le, nat_lt, if◌then◌else◌, List, [], ◌∷◌, length, Option, None, Some, Result, Ok, Err, codes, option_and_then, ok_or, min}
use Rattle.std.specs.Option.{option_map_or}
use Rattle.std.specs.Result.{result_ok}
use Rattle.std.specs.List.{list_all, list_any}
use Rattle.std.specs.Str.{str_eq_ignore_ascii_case}
use Rattle.hex.specs.Hex.{decode_sized}
use Rattle.geom.specs.Natural.{number_in}
use Rattle.geom.specs.Side.{picture_side}
use Rattle.geom.specs.World.{Area}
use Rattle.mapdefs.specs.Colour.{rgb_of_bytes}
use Rattle.mapdefs.specs.declared.colour.Rgb.{Rgb}
use Rattle.mapdefs.specs.declared.layer.LayerFields.{LayerFields}
use Rattle.mapdefs.specs.declared.map.MapFields.{MapFields}
use Rattle.mapdefs.specs.declared.limits.TheConstants.{MAX_FEATURES}
use Rattle.mapdefs.specs.Name.{index_of, is_same_name}
use Rattle.operations.specs.Operation.{name_of}
use Rattle.operations.specs.declared.operation.Operation.{Operation}
use Rattle.operations.specs.declared.operation.Operation.TheVariants as operation
use Rattle.crsaxes.specs.Axes.{box_of_parts, crs_of, metres_across, parts}
use Rattle.crsaxes.specs.declared.crs.Crs.{Crs}
use Rattle.wmsquery.specs.declared.fault.Code.{Code}
use Rattle.wmsquery.specs.declared.fault.Code.TheVariants as code
use Rattle.wmsquery.specs.declared.lists.TheConstants.{MAX_NAMES}
use Rattle.wmsquery.specs.declared.request.Format.{Format}
use Rattle.wmsquery.specs.declared.request.Format.TheVariants.{Png, Pixmap, ArbitraryMap}
use Rattle.wmsquery.specs.Pairs.{names_in}
use Rattle.mapdefs.specs.Outcome.{and_then}

-- a parameter is required
abbrev pub required : {X : Type 0} → Option X → Result X Code
required text = ok_or text code.MissingParameterValue

-- a text other than this one is refused
abbrev pub fixed : List ℕ → Code → List ℕ → Result (Unit {0}) Code
fixed wanted refusal text = if is_same_name text wanted then Ok tt else Err refusal

-- SERVICE may be missing, and is WMS
abbrev pub service_of : Option (List ℕ) → Result (Unit {0}) Code
service_of None = Ok tt
service_of (Some text) = fixed (codes "WMS") code.InvalidParameterValue text

-- the operation of a name
abbrev pub operation_named : List ℕ → Option Operation
operation_named name =
    if is_same_name name (name_of operation.Capabilities) then Some operation.Capabilities
    else (if is_same_name name (name_of operation.Map) then Some operation.Map
    else (if is_same_name name (name_of operation.Information) then Some operation.Information else None))

-- REQUEST is the name of an operation
abbrev pub operation_of : Option (List ℕ) → Result Operation Code
operation_of text = and_then (required text) (λ name. ok_or (operation_named name) code.OperationNotSupported)

-- VERSION is 1.3.0
abbrev pub version_of : Option (List ℕ) → Result (Unit {0}) Code
version_of text = and_then (required text) (fixed (codes "1.3.0") code.InvalidParameterValue)

-- a layer is defined where the map has one with its name that is switched on, and the name is not empty
abbrev pub layer_named : MapFields → List ℕ → Option ℕ
layer_named map [] = None
layer_named map (b ∷ bs) =
    option_and_then (λ index. option_map_or (λ (layer : LayerFields). if layer.on then Some index else None) (slice_get map.layers index) None)
    (index_of (b ∷ bs) map.layers)

-- at least one name has to be listed, and at most `MAX_NAMES`
abbrev pub listed : ℕ → Result (Unit {0}) Code
listed count = if count == 0 then Err code.MissingParameterValue else (if nat_le count MAX_NAMES then Ok tt else Err code.InvalidParameterValue)

-- the index of each of some names, or the first refusal
abbrev pub indices_of : (List ℕ → Result ℕ Code) → List (List ℕ) → Result (List ℕ) Code
indices_of index_of [] = Ok []
indices_of index_of (name ∷ names) = and_then (index_of name) (λ index. and_then (indices_of index_of names) (λ indices. Ok (index ∷ indices)))

-- the index of the layer with a name, which has to be defined
abbrev pub defined : MapFields → List ℕ → Result ℕ Code
defined map name = ok_or (layer_named map name) code.LayerNotDefined

-- LAYERS lists layers that are defined
abbrev pub layers_of : MapFields → List (List ℕ) → Result (List ℕ) Code
layers_of map names = and_then (listed (length names)) (λ _. indices_of (defined map) names)

-- an entry of STYLES is empty or `default`
abbrev pub is_default : List ℕ → Bool
is_default [] = true
is_default (b ∷ bs) = is_same_name (b ∷ bs) (codes "default")

-- STYLES has an entry for each layer, and each entry is the default
abbrev pub style_list : ℕ → List (List ℕ) → Result (Unit {0}) Code
style_list count entries =
    if not (length entries == count) then Err code.InvalidParameterValue
    else (if list_all is_default entries then Ok tt else Err code.StyleNotDefined)

-- an empty STYLES is the default of all layers, else it has an entry for each
abbrev pub styles_listed : ℕ → List ℕ → Result (Unit {0}) Code
styles_listed count [] = Ok tt
styles_listed count (b ∷ bs) = style_list count (names_in (b ∷ bs))

-- the default of a parameter of GetMap that is missing: GetFeatureInfo doesn't require it
abbrev pub absent : {X : Type 0} → Operation → X → Result X Code
absent operation.Information default = Ok default
absent operation.Map default = Err code.MissingParameterValue
absent operation.Capabilities default = Err code.MissingParameterValue

-- STYLES, for so many layers, may be empty
abbrev pub styles_of : Operation → ℕ → Option (List ℕ) → Result (Unit {0}) Code
styles_of o count None = absent o tt
styles_of o count (Some text) = styles_listed count text

-- CRS is a known coordinate reference system; web mercator where it is offered
abbrev pub system_of : Bool → Option (List ℕ) → Result Crs Code
system_of mercator text = and_then (required text) (λ name. ok_or (crs_of mercator name) code.InvalidCrs)

-- BBOX is a box in the axis order of a system
abbrev pub area_of : Crs → Option (List ℕ) → Result Area Code
area_of crs text = and_then (required text) (λ box. ok_or (result_ok (box_of_parts crs (parts box))) code.InvalidParameterValue)

-- how wide BBOX is in millionths of a metre, in a system of metres
abbrev pub metres_of : Crs → Option (List ℕ) → Option ℕ
metres_of crs text = option_and_then (λ box. metres_across crs (parts box)) text

-- WIDTH and HEIGHT are the number of a side that a picture may have
abbrev pub side_of : Option (List ℕ) → Result ℕ Code
side_of text = and_then (required text) (λ digits. ok_or (option_and_then picture_side (number_in digits)) code.InvalidParameterValue)

-- the format with a name: portable pixmaps, portable arbitrary maps, and PNG where it is offered
abbrev pub format_named : Bool → List ℕ → Result Format Code
format_named png name =
    if is_same_name name (codes "image/x-portable-pixmap") then Ok Pixmap
    else (if is_same_name name (codes "image/x-portable-arbitrarymap") then Ok ArbitraryMap
    else (if png && is_same_name name (codes "image/png") then Ok Png else Err code.InvalidFormat))

-- FORMAT is the name of a format
abbrev pub format_of : Bool → Operation → Option (List ℕ) → Result Format Code
format_of png o None = absent o Pixmap
format_of png o (Some name) = format_named png name

-- TRANSPARENT is TRUE or FALSE without case, FALSE where it is missing
abbrev pub transparent_of : Option (List ℕ) → Result Bool Code
transparent_of None = Ok false
transparent_of (Some text) =
    if str_eq_ignore_ascii_case text (codes "TRUE") then Ok true
    else (if str_eq_ignore_ascii_case text (codes "FALSE") then Ok false else Err code.InvalidParameterValue)

-- a colour is `0x` or `0X` and three bytes of two hexadecimal digits each
abbrev pub colour_of : List ℕ → Option Rgb
colour_of (zero_digit ∷ x ∷ digits) =
    if zero_digit == 48 && (x == 120 || x == 88) then option_and_then rgb_of_bytes (result_ok (decode_sized digits 3)) else None
colour_of _ = None

-- BGCOLOR is a colour, white where it is missing
abbrev pub background_of : Option (List ℕ) → Result Rgb Code
background_of None = Ok (record { red = 255; green = 255; blue = 255 })
background_of (Some text) = ok_or (colour_of text) code.InvalidParameterValue

-- the background is none if the format can be transparent and TRANSPARENT is TRUE, else the colour of BGCOLOR
abbrev pub background_for : Format → Bool → Rgb → Option Rgb
background_for Png true colour = None
background_for Png false colour = Some colour
background_for ArbitraryMap true colour = None
background_for ArbitraryMap false colour = Some colour
background_for Pixmap transparent colour = Some colour

-- a name is among others
abbrev pub is_among : List ℕ → List (List ℕ) → Bool
is_among name names = list_any (is_same_name name) names

-- the features of the layer at an index may be requested
abbrev pub is_queryable : MapFields → ℕ → Bool
is_queryable map index = option_map_or (λ (layer : LayerFields). layer.queryable) (slice_get map.layers index) false

-- the index of the layer with a name of QUERY_LAYERS: defined, among the names of LAYERS, and queryable
abbrev pub asked : MapFields → List (List ℕ) → List ℕ → Result ℕ Code
asked map names name =
    and_then (defined map name) (λ index.
    if is_among name names then (if is_queryable map index then Ok index else Err code.LayerNotQueryable) else Err code.LayerNotDefined)

-- QUERY_LAYERS lists layers of LAYERS that are queryable
abbrev pub asked_of : MapFields → List (List ℕ) → List (List ℕ) → Result (List ℕ) Code
asked_of map names queried = and_then (listed (length queried)) (λ _. indices_of (asked map names) queried)

-- INFO_FORMAT is plain text
abbrev pub info_format_of : Option (List ℕ) → Result (Unit {0}) Code
info_format_of text = and_then (required text) (fixed (codes "text/plain") code.InvalidFormat)

-- a count of features: 0 is refused, and a count above the most that a layer may have counts as that
abbrev pub count_within : ℕ → Option ℕ
count_within n = if n == 0 then None else Some (min n MAX_FEATURES)

-- FEATURE_COUNT is such a count, 1 where it is missing
abbrev pub feature_count_of : Option (List ℕ) → Result ℕ Code
feature_count_of None = Ok 1
feature_count_of (Some digits) = ok_or (option_and_then count_within (number_in digits)) code.InvalidParameterValue

-- the index, if it is below so many
abbrev pub index_below : ℕ → ℕ → Option ℕ
index_below side n = if nat_lt n side then Some n else None

-- I and J are the index of a column or row of a picture that has a side of so many pixels
abbrev pub pixel_of : ℕ → Option (List ℕ) → Result ℕ Code
pixel_of side text = and_then (required text) (λ digits. ok_or (option_and_then (index_below side) (number_in digits)) code.InvalidPoint)

-- a client that has the document of a sequence gets the present one where that is a later one
abbrev pub is_behind : ℕ → ℕ → Result (Unit {0}) Code
is_behind present n =
    if n == present then Err code.CurrentUpdateSequence else (if nat_lt n present then Ok tt else Err code.InvalidUpdateSequence)

-- UPDATESEQUENCE may be missing, and is a number below the present sequence
abbrev pub sequence_of : ℕ → Option (List ℕ) → Result (Unit {0}) Code
sequence_of present None = Ok tt
sequence_of present (Some digits) = and_then (ok_or (number_in digits) code.InvalidUpdateSequence) (is_behind present)
