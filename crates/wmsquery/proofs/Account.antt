-- The reader's account of a query is what the query means.
use Rattle.std.proofs.Common.{◌≡◌, ◌∙◌, ℕ, Bool, List, [], ◌∷◌, ◌++◌, length, Option, Some, Result, Ok, Err, IfOk, IfErr, MatchResult, option_and_then, ap, refl, sym, subst}
use Rattle.std.specs.Option.{option_map_or}
use Rattle.std.specs.Result.{result_ok, result_err}
use Rattle.operations.specs.declared.operation.Operation.{Operation}
use Rattle.operations.specs.declared.operation.Operation.TheVariants as operation
use Rattle.mapdefs.specs.declared.colour.Rgb.{Rgb}
use Rattle.mapdefs.specs.declared.map.MapFields.{MapFields}
use Rattle.wmsquery.specs.declared.error.QueryError.{QueryError}
use Rattle.wmsquery.specs.declared.error.QueryError.TheVariants.{Fault, NoMemory}
use Rattle.wmsquery.specs.declared.fault.Code.{Code}
use Rattle.wmsquery.specs.declared.fault.Parameter.{Parameter}
use Rattle.wmsquery.specs.declared.fault.Parameter.TheVariants as parameter
use Rattle.wmsquery.specs.declared.fault.WmsFault.{WmsFault}
use Rattle.wmsquery.specs.declared.information.QueriedPixel.{QueriedPixel}
use Rattle.wmsquery.specs.declared.picture.Viewport.{Viewport}
use Rattle.wmsquery.specs.declared.picture.Output.{Output}
use Rattle.wmsquery.specs.declared.request.Format.{Format}
use Rattle.wmsquery.specs.declared.request.InformationRequest.{InformationRequest}
use Rattle.wmsquery.specs.declared.request.MapRequest.{MapRequest}
use Rattle.wmsquery.specs.declared.request.Request.{Request}
use Rattle.wmsquery.specs.declared.request.Request.TheVariants as request
use Rattle.wmsquery.specs.Meaning.{HasValues, HasInformation, IsRequestOf, IsMeaningOf, IsMeaningErrorOf}
use Rattle.wmsquery.specs.Order.{first_fault, order, map_order, information_order}
use Rattle.wmsquery.specs.Pairs.{Texts, given}
use Rattle.wmsquery.specs.Query.{operation_in, layer_names, system_in, area_in, metres_in, format_in, background_in, asked_in, column_in, row_in, refusal, looked_at}
use Rattle.wmsquery.specs.Reading.{IsErrorOf, checked, operation_read, layers_read, viewport_read, output_read, map_read, asked_read, pixel_read, information_read, own_read, request_read}
use Rattle.wmsquery.specs.Values.{service_of, version_of, layers_of, styles_of, system_of, area_of, metres_of, side_of, format_of, transparent_of, background_of, background_for, info_format_of, feature_count_of, pixel_of, sequence_of}
use Rattle.mapdefs.specs.Outcome.{and_then}
use Rattle.wmsquery.proofs.FirstFault.{checked-last, checked-then, or_later, stretches, stretch-then}
use Rattle.wmsquery.proofs.Steps.{steps, unchecked, same-value, same-fault}

-- SERVICE and REQUEST
abbrev front : List Parameter
front = parameter.Service ∷ parameter.Request ∷ []

-- the stretches of GetMap
abbrev layers_order : List Parameter
layers_order = parameter.Version ∷ parameter.Layers ∷ parameter.Styles ∷ []

abbrev viewport_order : List Parameter
viewport_order = parameter.Crs ∷ parameter.Bbox ∷ parameter.Width ∷ parameter.Height ∷ []

abbrev output_order : List Parameter
output_order = parameter.Format ∷ parameter.Transparent ∷ parameter.Bgcolor ∷ []

-- and those that GetFeatureInfo has after them
abbrev asked_order : List Parameter
asked_order = parameter.QueryLayers ∷ parameter.InfoFormat ∷ []

abbrev pixel_order : List Parameter
pixel_order = parameter.FeatureCount ∷ parameter.Column ∷ parameter.Row ∷ []

module _ (map : MapFields) (sequence : ℕ) (t : Texts) where
  -- ---- faults

  abbrev refused : Parameter → Option Code
  refused = refusal map sequence t

  operation-fault : result_err (operation_read t) ≡ first_fault refused front
  operation-fault =
      checked-then refused parameter.Service (parameter.Request ∷ []) (service_of (given t parameter.Service)) _ refl (λ _ _.
      checked-last refused parameter.Request (operation_in t) refl)

  layers-fault : (o : Operation) → operation_in t ≡ Ok o → result_err (layers_read map o t) ≡ first_fault refused layers_order
  layers-fault o is =
      checked-then refused parameter.Version (parameter.Layers ∷ parameter.Styles ∷ []) (version_of (given t parameter.Version)) _ refl (λ _ _.
      checked-then refused parameter.Layers (parameter.Styles ∷ []) (layers_of map (layer_names t)) _ refl (λ _ _.
      checked-then refused parameter.Styles [] (styles_of o (length (layer_names t)) (t parameter.Styles)) _
      (ap (λ r. result_err (and_then r (λ q. styles_of q (length (layer_names t)) (t parameter.Styles)))) is) (λ _ _. refl)))

  viewport-fault : result_err (viewport_read map t) ≡ first_fault refused viewport_order
  viewport-fault =
      checked-then refused parameter.Crs (parameter.Bbox ∷ parameter.Width ∷ parameter.Height ∷ []) (system_of map.mercator (given t parameter.Crs)) _ refl (λ crs is.
      checked-then refused parameter.Bbox (parameter.Width ∷ parameter.Height ∷ []) (area_of crs (given t parameter.Bbox)) _
      (ap (λ s. result_err (and_then s (λ system. area_of system (given t parameter.Bbox)))) is) (λ _ _.
      checked-then refused parameter.Width (parameter.Height ∷ []) (side_of (given t parameter.Width)) _ refl (λ _ _.
      checked-then refused parameter.Height [] (side_of (given t parameter.Height)) _ refl (λ _ _. refl))))

  output-fault : (o : Operation) → operation_in t ≡ Ok o → result_err (output_read map o t) ≡ first_fault refused output_order
  output-fault o is =
      checked-then refused parameter.Format (parameter.Transparent ∷ parameter.Bgcolor ∷ []) (format_of map.png o (given t parameter.Format)) _
      (ap (λ r. result_err (and_then r (λ q. format_of map.png q (given t parameter.Format)))) is) (λ _ _.
      checked-then refused parameter.Transparent (parameter.Bgcolor ∷ []) (transparent_of (given t parameter.Transparent)) _ refl (λ _ _.
      checked-then refused parameter.Bgcolor [] (background_of (given t parameter.Bgcolor)) _ refl (λ _ _. refl)))

  map-fault : (o : Operation) → operation_in t ≡ Ok o → result_err (map_read map o t) ≡ first_fault refused map_order
  map-fault o is =
      stretch-then refused layers_order (viewport_order ++ output_order) (layers_read map o t) _ (layers-fault o is) (λ _ _.
      stretch-then refused viewport_order output_order (viewport_read map t) _ viewport-fault (λ _ _.
      stretch-then refused output_order [] (output_read map o t) _ (output-fault o is) (λ _ _. refl)))

  asked-fault : result_err (asked_read map t) ≡ first_fault refused asked_order
  asked-fault =
      checked-then refused parameter.QueryLayers (parameter.InfoFormat ∷ []) (asked_in map t) _ refl (λ _ _.
      checked-then refused parameter.InfoFormat [] (info_format_of (given t parameter.InfoFormat)) _ refl (λ _ _. refl))

  queried-fault : (width height : ℕ) → side_of (given t parameter.Width) ≡ Ok width → side_of (given t parameter.Height) ≡ Ok height →
      result_err (pixel_read width height t) ≡ first_fault refused pixel_order
  queried-fault width height is_width is_height =
      checked-then refused parameter.FeatureCount (parameter.Column ∷ parameter.Row ∷ []) (feature_count_of (given t parameter.FeatureCount)) _ refl (λ _ _.
      checked-then refused parameter.Column (parameter.Row ∷ []) (pixel_of width (given t parameter.Column)) _
      (ap (λ s. result_err (and_then s (λ side. pixel_of side (given t parameter.Column)))) is_width) (λ _ _.
      checked-then refused parameter.Row [] (pixel_of height (given t parameter.Row)) _
      (ap (λ s. result_err (and_then s (λ side. pixel_of side (given t parameter.Row)))) is_height) (λ _ _. refl)))

  -- ---- values

  layers-value : (o : Operation) (chosen : List ℕ) → layers_read map o t ≡ Ok chosen → layers_of map (layer_names t) ≡ Ok chosen
  layers-value o chosen e =
      let version = steps (checked parameter.Version (version_of (given t parameter.Version))) _ chosen e in
      let layers = steps (checked parameter.Layers (layers_of map (layer_names t))) _ chosen version.rest in
      let styles = steps (checked parameter.Styles (styles_of o (length (layer_names t)) (t parameter.Styles))) _ chosen layers.rest in
      unchecked parameter.Layers _ chosen (layers.is ∙ styles.rest)

  record HasViewport (viewport : Viewport) : Type 0 where
    pub crs : system_in map t ≡ Ok viewport.crs
    pub area : area_in map t ≡ Ok viewport.area
    pub metres : metres_in map t ≡ viewport.metres
    pub width : side_of (given t parameter.Width) ≡ Ok viewport.width
    pub height : side_of (given t parameter.Height) ≡ Ok viewport.height

  viewport-value : (viewport : Viewport) → viewport_read map t ≡ Ok viewport → HasViewport viewport
  viewport-value viewport e =
      let crs = steps (checked parameter.Crs (system_of map.mercator (given t parameter.Crs))) _ viewport e in
      let area = steps (checked parameter.Bbox (area_of crs.first (given t parameter.Bbox))) _ viewport crs.rest in
      let width = steps (checked parameter.Width (side_of (given t parameter.Width))) _ viewport area.rest in
      let height = steps (checked parameter.Height (side_of (given t parameter.Height))) _ viewport width.rest in
      let same = same-value (record { crs = crs.first; area = area.first; metres = metres_of crs.first (given t parameter.Bbox); width = width.first; height = height.first }) viewport height.rest in
      record {
        crs = unchecked parameter.Crs _ crs.first crs.is ∙ ap (λ (f : Viewport). Ok f.crs) same;
        area = ap (λ s. and_then s (λ system. area_of system (given t parameter.Bbox))) (unchecked parameter.Crs _ crs.first crs.is)
            ∙ unchecked parameter.Bbox _ area.first area.is ∙ ap (λ (f : Viewport). Ok f.area) same;
        metres = ap (λ s. option_and_then (λ system. metres_of system (given t parameter.Bbox)) (result_ok s)) (unchecked parameter.Crs _ crs.first crs.is)
            ∙ ap (λ (f : Viewport). f.metres) same;
        width = unchecked parameter.Width _ width.first width.is ∙ ap (λ (f : Viewport). Ok f.width) same;
        height = unchecked parameter.Height _ height.first height.is ∙ ap (λ (f : Viewport). Ok f.height) same;
      }

  record HasOutput (output : Output) : Type 0 where
    pub format : format_in map t ≡ Ok output.format
    pub background : background_in map t ≡ Ok output.background

  background-is : (f : Format) (b : Bool) (c : Rgb) → format_in map t ≡ Ok f → transparent_of (given t parameter.Transparent) ≡ Ok b →
      background_of (given t parameter.Bgcolor) ≡ Ok c → background_in map t ≡ Ok (background_for f b c)
  background-is f b c is_format is_transparent is_colour = rw (is_format, is_transparent, is_colour) refl

  output-value : (o : Operation) → operation_in t ≡ Ok o → (output : Output) → output_read map o t ≡ Ok output → HasOutput output
  output-value o is output e =
      let format = steps (checked parameter.Format (format_of map.png o (given t parameter.Format))) _ output e in
      let transparent = steps (checked parameter.Transparent (transparent_of (given t parameter.Transparent))) _ output format.rest in
      let colour = steps (checked parameter.Bgcolor (background_of (given t parameter.Bgcolor))) _ output transparent.rest in
      let f = ap (λ r. and_then r (λ q. format_of map.png q (given t parameter.Format))) is ∙ unchecked parameter.Format _ format.first format.is in
      let b = unchecked parameter.Transparent _ transparent.first transparent.is in
      let c = unchecked parameter.Bgcolor _ colour.first colour.is in
      let same = same-value _ output colour.rest in
      record {
        format = f ∙ ap (λ (l : Output). Ok l.format) same;
        background = background-is _ _ _ f b c ∙ ap (λ (l : Output). Ok l.background) same;
      }

  map-value : (o : Operation) → operation_in t ≡ Ok o → (r : MapRequest) → map_read map o t ≡ Ok r → HasValues map t r
  map-value o is r e =
      let chosen = steps (layers_read map o t) _ r e in
      let viewport = steps (viewport_read map t) _ r chosen.rest in
      let output = steps (output_read map o t) _ r viewport.rest in
      let same = same-value _ r output.rest in
      let f = viewport-value viewport.first viewport.is in
      let l = output-value o is output.first output.is in
      record {
        chosen = layers-value o chosen.first chosen.is ∙ ap (λ (q : MapRequest). Ok q.chosen) same;
        crs = f.crs ∙ ap (λ (q : MapRequest). Ok q.crs) same;
        area = f.area ∙ ap (λ (q : MapRequest). Ok q.area) same;
        metres = f.metres ∙ ap (λ (q : MapRequest). q.metres) same;
        width = f.width ∙ ap (λ (q : MapRequest). Ok q.width) same;
        height = f.height ∙ ap (λ (q : MapRequest). Ok q.height) same;
        format = l.format ∙ ap (λ (q : MapRequest). Ok q.format) same;
        background = l.background ∙ ap (λ (q : MapRequest). Ok q.background) same;
      }

  asked-value : (asked : List ℕ) → asked_read map t ≡ Ok asked → asked_in map t ≡ Ok asked
  asked-value asked e =
      let layers = steps (checked parameter.QueryLayers (asked_in map t)) _ asked e in
      let format = steps (checked parameter.InfoFormat (info_format_of (given t parameter.InfoFormat))) _ asked layers.rest in
      unchecked parameter.QueryLayers _ asked (layers.is ∙ format.rest)

  record HasPixel (queried : QueriedPixel) : Type 0 where
    pub count : feature_count_of (given t parameter.FeatureCount) ≡ Ok queried.count
    pub column : column_in t ≡ Ok queried.column
    pub row : row_in t ≡ Ok queried.row

  queried-value : (width height : ℕ) → side_of (given t parameter.Width) ≡ Ok width → side_of (given t parameter.Height) ≡ Ok height →
      (queried : QueriedPixel) → pixel_read width height t ≡ Ok queried → HasPixel queried
  queried-value width height is_width is_height queried e =
      let count = steps (checked parameter.FeatureCount (feature_count_of (given t parameter.FeatureCount))) _ queried e in
      let column = steps (checked parameter.Column (pixel_of width (given t parameter.Column))) _ queried count.rest in
      let row = steps (checked parameter.Row (pixel_of height (given t parameter.Row))) _ queried column.rest in
      let same = same-value (record { count = count.first; column = column.first; row = row.first }) queried row.rest in
      record {
        count = unchecked parameter.FeatureCount _ count.first count.is ∙ ap (λ (s : QueriedPixel). Ok s.count) same;
        column = ap (λ s. and_then s (λ side. pixel_of side (given t parameter.Column))) is_width
            ∙ unchecked parameter.Column _ column.first column.is ∙ ap (λ (s : QueriedPixel). Ok s.column) same;
        row = ap (λ s. and_then s (λ side. pixel_of side (given t parameter.Row))) is_height
            ∙ unchecked parameter.Row _ row.first row.is ∙ ap (λ (s : QueriedPixel). Ok s.row) same;
      }

  information-value : operation_in t ≡ Ok operation.Information → (r : InformationRequest) → information_read map t ≡ Ok r → HasInformation map t r
  information-value is r e =
      let picture = steps (map_read map operation.Information t) _ r e in
      let values = map-value operation.Information is picture.first picture.is in
      let asked = steps (asked_read map t) _ r picture.rest in
      let queried = steps (pixel_read picture.first.width picture.first.height t) _ r asked.rest in
      let same = same-value _ r queried.rest in
      let s = queried-value _ _ values.width values.height queried.first queried.is in
      record {
        map = subst (λ (q : InformationRequest). HasValues map t q.map) same values;
        layers = asked-value asked.first asked.is ∙ ap (λ (q : InformationRequest). Ok q.layers) same;
        count = s.count ∙ ap (λ (q : InformationRequest). Ok q.count) same;
        column = s.column ∙ ap (λ (q : InformationRequest). Ok q.column) same;
        row = s.row ∙ ap (λ (q : InformationRequest). Ok q.row) same;
      }

  information-fault : operation_in t ≡ Ok operation.Information → result_err (information_read map t) ≡ first_fault refused (map_order ++ information_order)
  information-fault is =
      stretch-then refused map_order information_order (map_read map operation.Information t) _ (map-fault operation.Information is) (λ picture e.
      let values = map-value operation.Information is picture e in
      stretch-then refused asked_order pixel_order (asked_read map t) _ asked-fault (λ _ _.
      stretch-then refused pixel_order [] (pixel_read picture.width picture.height t) _ (queried-fault _ _ values.width values.height) (λ _ _. refl)))

  -- ---- the whole

  -- the fault of reading the whole, and its request
  record IsOwn (o : Operation) (r : Result Request WmsFault) : Type 0 where
    pub fault : result_err r ≡ first_fault refused (order o)
    pub value : IfOk r (IsRequestOf map t)

  capabilities-own : operation_in t ≡ Ok operation.Capabilities → (r : Result Request WmsFault) → own_read map sequence t operation.Capabilities ≡ r →
      IfOk r (IsRequestOf map t)
  capabilities-own is (Ok q) e =
      let sequence = steps (checked parameter.UpdateSequence (sequence_of sequence (given t parameter.UpdateSequence))) _ q e in
      subst (IsRequestOf map t) (same-value request.Capabilities q sequence.rest) is
  capabilities-own is (Err f) e = tt

  map-own : operation_in t ≡ Ok operation.Map → (r : Result Request WmsFault) → own_read map sequence t operation.Map ≡ r → IfOk r (IsRequestOf map t)
  map-own is (Ok q) e =
      let picture = steps (map_read map operation.Map t) _ q e in
      subst (IsRequestOf map t) (same-value (request.Map picture.first) q picture.rest) (is, map-value operation.Map is picture.first picture.is)
  map-own is (Err f) e = tt

  information-own : operation_in t ≡ Ok operation.Information → (r : Result Request WmsFault) → own_read map sequence t operation.Information ≡ r →
      IfOk r (IsRequestOf map t)
  information-own is (Ok q) e =
      let information = steps (information_read map t) _ q e in
      subst (IsRequestOf map t) (same-value (request.Information information.first) q information.rest) (is, information-value is information.first information.is)
  information-own is (Err f) e = tt

  own : (o : Operation) → operation_in t ≡ Ok o → IsOwn o (own_read map sequence t o)
  own operation.Capabilities is = record {
    fault = checked-then refused parameter.UpdateSequence [] (sequence_of sequence (given t parameter.UpdateSequence)) _ refl (λ _ _. refl);
    value = capabilities-own is _ refl;
  }
  own operation.Map is = record {
    fault = stretch-then refused map_order [] (map_read map operation.Map t) _ (map-fault operation.Map is) (λ _ _. refl);
    value = map-own is _ refl;
  }
  own operation.Information is = record {
    fault = stretch-then refused (map_order ++ information_order) [] (information_read map t) _ (information-fault is) (λ _ _. refl);
    value = information-own is _ refl;
  }

  -- where SERVICE or REQUEST is refused, that is the fault
  front-refused : (f : WmsFault) → operation_read t ≡ Err f → first_fault refused (looked_at t) ≡ Some f
  front-refused f e =
      let rest = option_map_or order (result_ok (operation_in t)) [] in
      stretches refused front rest ∙ ap (λ g. or_later g (first_fault refused rest)) (sym operation-fault ∙ ap result_err e)

  -- else the operation is known, and the fault is that of its own parameters
  known : (o : Operation) → operation_read t ≡ Ok o → operation_in t ≡ Ok o
  known o e =
      let service = steps (checked parameter.Service (service_of (given t parameter.Service))) _ o e in
      unchecked parameter.Request _ o service.rest

  own-fault : (o : Operation) → operation_read t ≡ Ok o → first_fault refused (looked_at t) ≡ first_fault refused (order o)
  own-fault o e =
      let rest = option_map_or order (result_ok (operation_in t)) [] in
      let is : rest ≡ order o = ap (λ r. option_map_or order (result_ok r) []) (known o e) in
      stretches refused front rest
      ∙ ap (λ g. or_later g (first_fault refused rest)) (sym operation-fault ∙ ap result_err e)
      ∙ ap (first_fault refused) is

  -- reading the whole gives what the query means
  meant-of : (o : Operation) (r : Result Request WmsFault) → operation_read t ≡ Ok o → IsOwn o r → IsMeaningOf map sequence t r
  meant-of o (Ok q) e is = (own-fault o e ∙ sym is.fault, is.value)
  meant-of o (Err f) e is = own-fault o e ∙ sym is.fault

  by-operation : (o : Result Operation WmsFault) (r : Result Request WmsFault) → operation_read t ≡ o → request_read map sequence t ≡ r → IsMeaningOf map sequence t r
  by-operation (Ok o) r e is =
      let same : own_read map sequence t o ≡ r = sym (ap (λ p. and_then p (own_read map sequence t)) e) ∙ is in
      meant-of o r e (subst (IsOwn o) same (own o (known o e)))
  by-operation (Err f) (Ok q) e is = absurd (never (sym (ap (λ p. and_then p (own_read map sequence t)) e) ∙ is))
    where
      never : Err f ≡ Ok q → ⊥
      never h = cc
  by-operation (Err f) (Err g) e is =
      front-refused f e ∙ ap Some (same-fault f g (sym (ap (λ p. and_then p (own_read map sequence t)) e) ∙ is))

  meant : (r : Result Request WmsFault) → request_read map sequence t ≡ r → IsMeaningOf map sequence t r
  meant r is = by-operation _ r refl is

  -- a request that is read is the one that the query means
  pub request-meant : (result : Result Request QueryError) →
      MatchResult result (λ r. request_read map sequence t ≡ Ok r) (IsErrorOf (request_read map sequence t)) → IfOk result (λ r. IsMeaningOf map sequence t (Ok r))
  request-meant (Ok r) is = meant (Ok r) is
  request-meant (Err error) is = tt

  -- and so is a fault
  error-is : (error : QueryError) → IsErrorOf (request_read map sequence t) error → IsMeaningErrorOf map sequence t error
  error-is (Fault f) is = meant (Err f) is
  error-is NoMemory is = tt

  pub error-meant : (result : Result Request QueryError) →
      MatchResult result (λ r. request_read map sequence t ≡ Ok r) (IsErrorOf (request_read map sequence t)) → IfErr result (IsMeaningErrorOf map sequence t)
  error-meant (Ok r) is = tt
  error-meant (Err error) is = error-is error is
