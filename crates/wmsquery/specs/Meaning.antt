-- What a query means: a request, or the fault of its first parameter that is refused (docs/WMS.md, "Queries").
use Rattle.std.specs.Prelude.{◌≡◌, ℕ, List, [], ◌∷◌, ◌++◌, All, None, Some, Result, Ok, Err}
use Rattle.operations.specs.declared.operation.Operation.TheVariants as operation
use Rattle.mapdefs.specs.declared.map.MapFields.{MapFields}
use Rattle.wmsquery.specs.declared.error.QueryError.{QueryError}
use Rattle.wmsquery.specs.declared.error.QueryError.TheVariants.{Fault, NoMemory}
use Rattle.wmsquery.specs.declared.fault.Parameter.{Parameter}
use Rattle.wmsquery.specs.declared.fault.Parameter.TheVariants as parameter
use Rattle.wmsquery.specs.declared.fault.WmsFault.{WmsFault}
use Rattle.wmsquery.specs.declared.request.InformationRequest.{InformationRequest}
use Rattle.wmsquery.specs.declared.request.MapRequest.{MapRequest}
use Rattle.wmsquery.specs.declared.request.Request.{Request}
use Rattle.wmsquery.specs.declared.request.Request.TheVariants as request
use Rattle.wmsquery.specs.Order.{first_fault}
use Rattle.wmsquery.specs.Pairs.{Texts, pairs_of, texts_of, given}
use Rattle.wmsquery.specs.Query.{operation_in, layer_names, system_in, area_in, metres_in, format_in, background_in, asked_in, column_in, row_in, refusal, looked_at}
use Rattle.wmsquery.specs.Values.{layers_of, side_of, feature_count_of}

-- the request has the values of the parameters
pub record HasValues (map : MapFields) (t : Texts) (r : MapRequest) : Type 0 where
  pub chosen : layers_of map (layer_names t) ≡ Ok r.chosen
  pub crs : system_in map t ≡ Ok r.crs
  pub area : area_in map t ≡ Ok r.area
  pub metres : metres_in map t ≡ r.metres
  pub width : side_of (given t parameter.Width) ≡ Ok r.width
  pub height : side_of (given t parameter.Height) ≡ Ok r.height
  pub format : format_in map t ≡ Ok r.format
  pub background : background_in map t ≡ Ok r.background

-- so has the request for feature information
pub record HasInformation (m : MapFields) (t : Texts) (r : InformationRequest) : Type 0 where
  pub map : HasValues m t r.map
  pub layers : asked_in m t ≡ Ok r.layers
  pub count : feature_count_of (given t parameter.FeatureCount) ≡ Ok r.count
  pub column : column_in t ≡ Ok r.column
  pub row : row_in t ≡ Ok r.row

-- the request is that of the operation, with its values
abbrev pub IsRequestOf : MapFields → Texts → Request → Type 0
IsRequestOf map t request.Capabilities = operation_in t ≡ Ok operation.Capabilities
IsRequestOf map t (request.Map r) = (operation_in t ≡ Ok operation.Map) × HasValues map t r
IsRequestOf map t (request.Information r) = (operation_in t ≡ Ok operation.Information) × HasInformation map t r

-- texts of parameters mean a request of a map at a sequence where none is refused, else the fault of the first refused one
abbrev pub IsMeaningOf : MapFields → ℕ → Texts → Result Request WmsFault → Type 0
IsMeaningOf map sequence t (Ok r) = (first_fault (refusal map sequence t) (looked_at t) ≡ None) × IsRequestOf map t r
IsMeaningOf map sequence t (Err f) = first_fault (refusal map sequence t) (looked_at t) ≡ Some f

-- a query means what the texts of its parameters mean
abbrev pub IsMeaning : MapFields → ℕ → List ℕ → Result Request WmsFault → Type 0
IsMeaning map sequence query meant = IsMeaningOf map sequence (texts_of (pairs_of query)) meant

-- an error is the fault that the texts mean, or refused memory
abbrev pub IsMeaningErrorOf : MapFields → ℕ → Texts → QueryError → Type 0
IsMeaningErrorOf map sequence t (Fault f) = IsMeaningOf map sequence t (Err f)
IsMeaningErrorOf map sequence t NoMemory = Unit {0}

-- an error is the fault that the query means, or refused memory
abbrev pub IsMeaningError : MapFields → ℕ → List ℕ → QueryError → Type 0
IsMeaningError map sequence query e = IsMeaningErrorOf map sequence (texts_of (pairs_of query)) e

-- two queries give a parameter the same text
abbrev pub HaveSameText : List ℕ → List ℕ → Parameter → Type 0
HaveSameText a b p = texts_of (pairs_of a) p ≡ texts_of (pairs_of b) p

-- the law that what comes after the parameter at fault, in the order of refusal, changes nothing: a query
-- that gives each parameter up to that one the same text means the same fault
abbrev pub LaterChangesNothing : Type 0
LaterChangesNothing = (map : MapFields) (sequence : ℕ) (a b : List ℕ) (f : WmsFault) (before after : List Parameter) →
    looked_at (texts_of (pairs_of a)) ≡ before ++ f.parameter ∷ after → All (HaveSameText a b) (before ++ f.parameter ∷ []) →
    IsMeaning map sequence a (Err f) → IsMeaning map sequence b (Err f)

-- the law that a query has one meaning: a request or a fault, never both, and never two of either
abbrev pub MeaningIsOne : Type 0
MeaningIsOne = (map : MapFields) (sequence : ℕ) (query : List ℕ) (a b : Result Request WmsFault) →
    IsMeaning map sequence query a → IsMeaning map sequence query b → a ≡ b
