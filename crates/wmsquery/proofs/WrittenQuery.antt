-- A query that is written out from a request means that request.
use Rattle.std.proofs.Common.{◌^◌, ◌++◌, ◌≡◌, ℕ, ◌<◌, ◌≤◌, List, [], ◌∷◌, All, map, length, length-append, Bool, true, false, Option, None, Some, Ok, option_and_then, refl, sym, ap, subst, ◌∙◌, arith}
use Rattle.std.proofs.lemmas.List.Elements.{All-nil, All-cons, All-head, All-weaker}
use Rattle.std.specs.Fmt.{decimal}
use Rattle.std.specs.Option.{option_map_or}
use Rattle.std.specs.Result.{result_ok, result_err}
use Rattle.crsaxes.specs.Metres.{metres_down, metres_up}
use Rattle.crsaxes.specs.declared.crs.Crs.{Crs}
use Rattle.crsaxes.specs.declared.crs.Crs.TheVariants.{Crs84, Epsg3857, Epsg4326}
use Rattle.geom.specs.World.{Area, IsExtent}
use Rattle.geom.specs.Written.{written}
use Rattle.geom.proofs.Written.{numeral}
use Rattle.mapdefs.specs.declared.map.MapFields.{MapFields}
use Rattle.operations.specs.Operation.{name_of}
use Rattle.operations.specs.declared.operation.Operation.{Operation}
use Rattle.operations.specs.declared.operation.Operation.TheVariants as operation
use Rattle.mapdefs.specs.declared.colour.Rgb.{Rgb}
use Rattle.wmsquery.specs.declared.fault.Parameter.TheVariants as parameter
use Rattle.wmsquery.specs.declared.request.Format.{Format}
use Rattle.wmsquery.specs.declared.request.Format.TheVariants.{Png, Pixmap, ArbitraryMap}
use Rattle.wmsquery.specs.declared.request.InformationRequest.{InformationRequest}
use Rattle.wmsquery.specs.declared.request.MapRequest.{MapRequest}
use Rattle.wmsquery.specs.declared.request.Request.{Request}
use Rattle.wmsquery.specs.declared.request.Request.TheVariants as request
use Rattle.wmsquery.specs.Meaning.{HasValues, HasInformation, IsMeaningOf}
use Rattle.wmsquery.specs.Order.{first_of, first_fault, order, map_order, information_order}
use Rattle.wmsquery.specs.Pairs.{Texts, some_text, texts_of, given, names_of}
use Rattle.wmsquery.specs.Query.{operation_in, layer_names, styles_in, system_in, area_in, metres_in, format_in, background_in, asked_in, column_in, row_in, refusal, looked_at}
use Rattle.wmsquery.specs.Values.{service_of, operation_of, layers_of, styles_of, system_of, area_of, metres_of, side_of, format_of, transparent_of, background_of, background_for, asked_of, feature_count_of, pixel_of}
use Rattle.mapdefs.specs.Outcome.{and_then}
use Rattle.wmsquery.specs.Written.{IsKnown, with_commas, crs_text, bbox_text, format_text, transparent_text, background_text, picture_pairs, feature_pairs, written_pairs, AreNamed, IsOffered, IsBackground, IsColour, IsPicture, IsInformation, IsWritable, WrittenIsMeant}
use Rattle.wmsquery.proofs.FirstFault.{AreAccepted, none-refused, none-both}
use Rattle.wmsquery.proofs.WrittenAreas.{IsNumberByte, written-plain, down-plain, up-plain, digits-plain, area-written, colour-written}
use Rattle.wmsquery.proofs.WrittenLayers.{layers-written, asked-written, same-count, no-commas, names-split}
use Rattle.wmsquery.proofs.WrittenPairs.{IsTextPair, plain_pair, pairs-written}
use Rattle.wmsquery.proofs.WrittenTexts.{IsText, ascii-text, tested-text, text-pair, joined-text, names-text, hex-text}
use Rattle.wmsquery.proofs.WrittenValues.{side-written, count-written, pixel-written}

-- ---- the texts

-- bytes of a number are ASCII text
number-text : (bs : List ℕ) → All IsNumberByte bs → IsText bs
number-text bs h = ascii-text bs (All-weaker IsNumberByte (λ b. b < 128) (λ b n. n.ascii) bs h)

-- the name of a system is text
crs-is-text : (crs : Crs) → IsText (crs_text crs)
crs-is-text Crs84 = tested-text _ refl
crs-is-text Epsg4326 = tested-text _ refl
crs-is-text Epsg3857 = tested-text _ refl

-- four coordinates are text
four-text : (a b c d : List ℕ) → IsText a → IsText b → IsText c → IsText d → IsText (with_commas (a ∷ b ∷ c ∷ d ∷ []))
four-text a b c d ha hb hc hd =
    joined-text (a ∷ b ∷ c ∷ d ∷ [])
    (All-cons IsText a (b ∷ c ∷ d ∷ []) ha (All-cons IsText b (c ∷ d ∷ []) hb (All-cons IsText c (d ∷ []) hc (All-cons IsText d [] hd (All-nil IsText)))))

-- a box is text
bbox-is-text : (crs : Crs) (area : Area) → IsExtent area → IsText (bbox_text crs area)
bbox-is-text Epsg3857 area is =
    four-text (written (metres_down area.minx)) (written (metres_down area.miny)) (written (metres_up area.maxx)) (written (metres_up area.maxy))
    (number-text _ (down-plain area.minx is.world.west)) (number-text _ (down-plain area.miny is.world.south))
    (number-text _ (up-plain area.maxx is.world.east)) (number-text _ (up-plain area.maxy is.world.north))
bbox-is-text Crs84 area is =
    four-text (written area.minx) (written area.miny) (written area.maxx) (written area.maxy)
    (number-text _ (written-plain area.minx is.world.west)) (number-text _ (written-plain area.miny is.world.south))
    (number-text _ (written-plain area.maxx is.world.east)) (number-text _ (written-plain area.maxy is.world.north))
bbox-is-text Epsg4326 area is =
    four-text (written area.miny) (written area.minx) (written area.maxy) (written area.maxx)
    (number-text _ (written-plain area.miny is.world.south)) (number-text _ (written-plain area.minx is.world.west))
    (number-text _ (written-plain area.maxy is.world.north)) (number-text _ (written-plain area.maxx is.world.east))

-- the digits of a number are text
decimal-text : (n : ℕ) → n < 2 ^ 64 → IsText (decimal n)
decimal-text n small = number-text _ (digits-plain (decimal n) (numeral n small).digits)

-- the name of an operation is text
name-is-text : (o : Operation) → IsText (name_of o)
unfolding name_of
name-is-text operation.Capabilities = tested-text _ refl
name-is-text operation.Map = tested-text _ refl
name-is-text operation.Information = tested-text _ refl

-- all of some pairs are texts
record AreTexts (pairs : List (List ℕ × List ℕ)) : Type 0 where
  pub all : All IsTextPair pairs

texts-none : AreTexts []
texts-none = record { all = All-nil IsTextPair }

texts-more : {name value : List ℕ} {rest : List (List ℕ × List ℕ)} → IsText name → IsText value → AreTexts rest → AreTexts ((name, value) ∷ rest)
texts-more {name} {value} {rest} n v others = record { all = All-cons IsTextPair (name, value) rest (text-pair name value n v) others.all }

-- the name of a format is text, and so are the parameters of a background
format-is-text : (format : Format) → IsText (format_text format)
format-is-text Png = tested-text _ refl
format-is-text Pixmap = tested-text _ refl
format-is-text ArbitraryMap = tested-text _ refl

transparent-is-text : (background : Option Rgb) → IsText (transparent_text background)
transparent-is-text None = tested-text _ refl
transparent-is-text (Some colour) = tested-text _ refl

background-is-text : (background : Option Rgb) → IsText (background_text background)
background-is-text None = hex-text (255 ∷ 255 ∷ 255 ∷ [])
background-is-text (Some colour) = hex-text (colour.red ∷ colour.green ∷ colour.blue ∷ [])

-- all pairs that say which picture are texts
picture-texts : (map : MapFields) (crs : Crs) (o : Operation) (names : List (List ℕ)) (r : MapRequest) (more : List (List ℕ × List ℕ)) →
    IsPicture map crs names r → AreTexts more → AreTexts (picture_pairs crs o names r ++ more)
picture-texts map crs o names r more is others =
    texts-more (tested-text _ refl) (name-is-text o)
    (texts-more (tested-text _ refl) (tested-text _ refl)
    (texts-more (tested-text _ refl) (joined-text names (names-text map r.chosen names is.named))
    (texts-more (tested-text _ refl) (tested-text _ refl)
    (texts-more (tested-text _ refl) (crs-is-text crs)
    (texts-more (tested-text _ refl) (bbox-is-text crs r.area is.area)
    (texts-more (tested-text _ refl) (decimal-text r.width (omega (arith, is.width.most)))
    (texts-more (tested-text _ refl) (decimal-text r.height (omega (arith, is.height.most)))
    (texts-more (tested-text _ refl) (format-is-text r.format)
    (texts-more (tested-text _ refl) (transparent-is-text r.background)
    (texts-more (tested-text _ refl) (background-is-text r.background)
    others))))))))))

-- and those that say which features
feature-texts : (map : MapFields) (crs : Crs) (names queried : List (List ℕ)) (r : InformationRequest) → IsInformation map crs names queried r → AreTexts (feature_pairs queried r)
feature-texts map crs names queried r is =
    texts-more (tested-text _ refl) (joined-text queried (names-text map r.layers queried is.named))
    (texts-more (tested-text _ refl) (tested-text _ refl)
    (texts-more (tested-text _ refl) (decimal-text r.count (omega (arith, is.count)))
    (texts-more (tested-text _ refl) (decimal-text r.column (omega (arith, is.column, is.map.width.most)))
    (texts-more (tested-text _ refl) (decimal-text r.row (omega (arith, is.row, is.map.height.most)))
    texts-none))))

-- all pairs of a request are texts
all-texts : (map : MapFields) (crs : Crs) (names queried : List (List ℕ)) (r : Request) → IsWritable map crs names queried r → AreTexts (written_pairs crs names queried r)
all-texts map crs names queried request.Capabilities is = texts-more (tested-text _ refl) (name-is-text operation.Capabilities) texts-none
all-texts map crs names queried (request.Map r) is = picture-texts map crs operation.Map names r [] is texts-none
all-texts map crs names queried (request.Information r) is =
    picture-texts map crs operation.Information names r.map (feature_pairs queried r) is.map (feature-texts map crs names queried r is)

-- ---- the values

-- a text that is not empty counts as one that the query has
some-given : (text : List ℕ) → 1 ≤ length text → some_text text ≡ Some text
some-given [] h = absurd (omega arith)
some-given (b ∷ bs) h = refl

-- names between commas are not empty
names-some : (names : List (List ℕ)) → 1 ≤ length names → All (λ (name : List ℕ). 1 ≤ length name) names → 1 ≤ length (with_commas names)
names-some [] h some = absurd (omega arith)
names-some (n ∷ []) h some = All-head (λ (name : List ℕ). 1 ≤ length name) n [] some
names-some (n ∷ m ∷ ns) h some = omega (arith, length-append n (44 ∷ with_commas (m ∷ ns)))

-- the names of layers are not empty
each-some : (map : MapFields) (indices : List ℕ) (names : List (List ℕ)) → AreNamed map indices names → All (λ (name : List ℕ). 1 ≤ length name) names
each-some map [] [] are = All-nil (λ (name : List ℕ). 1 ≤ length name)
each-some map (i ∷ is) (n ∷ ns) are = All-cons (λ (name : List ℕ). 1 ≤ length name) n ns are.0.some (each-some map is ns are.1)
each-some map [] (n ∷ ns) are = absurd are
each-some map (i ∷ is) [] are = absurd are

-- nor is a box
bbox-some : (crs : Crs) (area : Area) → 1 ≤ length (bbox_text crs area)
bbox-some Epsg3857 area =
    omega (arith, length-append (written (metres_down area.minx)) (44 ∷ with_commas (written (metres_down area.miny) ∷ written (metres_up area.maxx) ∷ written (metres_up area.maxy) ∷ [])))
bbox-some Crs84 area = omega (arith, length-append (written area.minx) (44 ∷ with_commas (written area.miny ∷ written area.maxx ∷ written area.maxy ∷ [])))
bbox-some Epsg4326 area = omega (arith, length-append (written area.miny) (44 ∷ with_commas (written area.minx ∷ written area.maxy ∷ written area.maxx ∷ [])))

-- the name of an operation is not empty, and means that operation
name-some : (o : Operation) → some_text (name_of o) ≡ Some (name_of o)
unfolding name_of
name-some operation.Capabilities = refl
name-some operation.Map = refl
name-some operation.Information = refl

operation-written : (o : Operation) → operation_of (Some (name_of o)) ≡ Ok o
unfolding name_of
operation-written operation.Capabilities = refl
operation-written operation.Map = refl
operation-written operation.Information = refl

-- the name of a system is not empty, and means that system
crs-some : (crs : Crs) → some_text (crs_text crs) ≡ Some (crs_text crs)
crs-some Crs84 = refl
crs-some Epsg4326 = refl
crs-some Epsg3857 = refl

crs-written : (mercator : Bool) (crs : Crs) → IsKnown mercator crs → system_of mercator (Some (crs_text crs)) ≡ Ok crs
crs-written mercator Crs84 known = refl
crs-written mercator Epsg4326 known = refl
crs-written mercator Epsg3857 known = rw known refl

-- so is the name of a format
format-some : (format : Format) → some_text (format_text format) ≡ Some (format_text format)
format-some Png = refl
format-some Pixmap = refl
format-some ArbitraryMap = refl

format-written : (png : Bool) (o : Operation) (format : Format) → IsOffered png format → format_of png o (Some (format_text format)) ≡ Ok format
format-written png o Png is = rw is refl
format-written png o Pixmap is = refl
format-written png o ArbitraryMap is = refl

-- and so are the parameters of a background
transparent-some : (background : Option Rgb) → some_text (transparent_text background) ≡ Some (transparent_text background)
transparent-some None = refl
transparent-some (Some colour) = refl

background-some : (background : Option Rgb) → some_text (background_text background) ≡ Some (background_text background)
background-some None = refl
background-some (Some colour) = refl

-- whether the picture is transparent
abbrev is_none : Option Rgb → Bool
is_none None = true
is_none (Some colour) = false

transparent-written : (background : Option Rgb) → transparent_of (Some (transparent_text background)) ≡ Ok (is_none background)
transparent-written None = refl
transparent-written (Some colour) = refl

-- the colour that is written
abbrev written_colour : Option Rgb → Rgb
written_colour None = record { red = 255; green = 255; blue = 255 }
written_colour (Some colour) = colour

white-is-colour : IsColour (record { red = 255; green = 255; blue = 255 })
white-is-colour = record { red = omega arith; green = omega arith; blue = omega arith }

background-written : (format : Format) (background : Option Rgb) → IsBackground format background → background_of (Some (background_text background)) ≡ Ok (written_colour background)
background-written format None is = colour-written (record { red = 255; green = 255; blue = 255 }) white-is-colour
background-written format (Some colour) is = colour-written colour is

-- the three mean the background
background-meant : (format : Format) (background : Option Rgb) → IsBackground format background → background_for format (is_none background) (written_colour background) ≡ background
background-meant Png None is = refl
background-meant ArbitraryMap None is = refl
background-meant Pixmap None is = absurd is
background-meant Png (Some colour) is = refl
background-meant ArbitraryMap (Some colour) is = refl
background-meant Pixmap (Some colour) is = refl

-- ---- the values of a picture

-- the texts of some pairs
abbrev plain_texts : List (List ℕ × List ℕ) → Texts
plain_texts pairs = texts_of (map plain_pair pairs)

module _ (map : MapFields) (sequence : ℕ) (crs : Crs) (o : Operation) (names : List (List ℕ)) (r : MapRequest) (more : List (List ℕ × List ℕ))
    (is : IsPicture map crs names r) where
  -- the texts of the query
  abbrev t : Texts
  t = plain_texts (picture_pairs crs o names r ++ more)

  -- REQUEST names the operation
  operation-is : operation_in t ≡ Ok o
  operation-is = ap operation_of (name-some o) ∙ operation-written o

  -- LAYERS lists the names
  names-are : layer_names t ≡ names
  names-are =
      ap names_of (some-given _ (names-some names (omega (arith, same-count map r.chosen names is.named, is.some)) (each-some map r.chosen names is.named)))
      ∙ names-split names (omega (arith, same-count map r.chosen names is.named, is.some)) (no-commas map r.chosen names is.named)

  layers-are : layers_of map (layer_names t) ≡ Ok r.chosen
  layers-are = ap (layers_of map) names-are ∙ layers-written map r.chosen names is.some is.most is.named

  styles-are : styles_in t ≡ Ok tt
  styles-are = ap (λ p. and_then p (λ q. styles_of q (length (layer_names t)) (t parameter.Styles))) operation-is

  -- CRS and BBOX give the area
  crs-is : system_in map t ≡ Ok crs
  crs-is = ap (system_of map.mercator) (crs-some crs) ∙ crs-written map.mercator crs is.known

  area-is : area_in map t ≡ Ok r.area
  area-is =
      ap (λ s. and_then s (λ system. area_of system (given t parameter.Bbox))) crs-is
      ∙ ap (area_of crs) (some-given _ (bbox-some crs r.area))
      ∙ area-written crs r.area is.area

  metres-are : metres_in map t ≡ r.metres
  metres-are =
      ap (λ s. option_and_then (λ system. metres_of system (given t parameter.Bbox)) (result_ok s)) crs-is
      ∙ ap (metres_of crs) (some-given _ (bbox-some crs r.area))
      ∙ is.metres

  -- the sides
  width-is : side_of (given t parameter.Width) ≡ Ok r.width
  width-is =
      ap side_of (some-given (decimal r.width) (numeral r.width (omega (arith, is.width.most))).some) ∙ side-written r.width is.width

  height-is : side_of (given t parameter.Height) ≡ Ok r.height
  height-is =
      ap side_of (some-given (decimal r.height) (numeral r.height (omega (arith, is.height.most))).some) ∙ side-written r.height is.height

  -- the format and the background
  format-is : format_in map t ≡ Ok r.format
  format-is =
      ap (λ p. and_then p (λ q. format_of map.png q (given t parameter.Format))) operation-is
      ∙ ap (format_of map.png o) (format-some r.format)
      ∙ format-written map.png o r.format is.format

  transparent-is : transparent_of (given t parameter.Transparent) ≡ Ok (is_none r.background)
  transparent-is = ap transparent_of (transparent-some r.background) ∙ transparent-written r.background

  colour-is : background_of (given t parameter.Bgcolor) ≡ Ok (written_colour r.background)
  colour-is = ap background_of (background-some r.background) ∙ background-written r.format r.background is.background

  background-is : background_in map t ≡ Ok r.background
  background-is =
      ap (λ f. and_then f (λ format. and_then (transparent_of (given t parameter.Transparent)) (λ transparent. and_then (background_of (given t parameter.Bgcolor)) (λ colour. Ok (background_for format transparent colour))))) format-is
      ∙ ap (λ b. and_then b (λ transparent. and_then (background_of (given t parameter.Bgcolor)) (λ colour. Ok (background_for r.format transparent colour)))) transparent-is
      ∙ ap (λ c. and_then c (λ colour. Ok (background_for r.format (is_none r.background) colour))) colour-is
      ∙ ap Ok (background-meant r.format r.background is.background)

  -- no parameter of GetMap is refused
  map-accepted : AreAccepted (refusal map sequence t) map_order
  map-accepted =
      (refl, (ap result_err layers-are, (ap result_err styles-are, (ap result_err crs-is, (ap result_err area-is, (ap result_err width-is, (ap result_err height-is, (ap result_err format-is, (ap result_err transparent-is, (ap result_err colour-is, tt))))))))))

  -- and the values are those of the request
  values-are : HasValues map t r
  values-are = record { chosen = layers-are; crs = crs-is ∙ ap Ok (sym is.own); area = area-is; metres = metres-are; width = width-is; height = height-is; format = format-is; background = background-is }

-- ---- what comes after SERVICE and REQUEST

-- where the operation is known, and none of its parameters is refused, there is no fault
no-fault : (map : MapFields) (sequence : ℕ) (t : Texts) (o : Operation) → service_of (given t parameter.Service) ≡ Ok tt → operation_in t ≡ Ok o →
    first_fault (refusal map sequence t) (order o) ≡ None → first_fault (refusal map sequence t) (looked_at t) ≡ None
no-fault map sequence t o service is none =
    ap (λ r. first_fault (refusal map sequence t) (parameter.Service ∷ parameter.Request ∷ option_map_or order (result_ok r) [])) is
    ∙ ap (λ c. first_of parameter.Service c (first_of parameter.Request (refusal map sequence t parameter.Request) (first_fault (refusal map sequence t) (order o)))) (ap result_err service)
    ∙ ap (λ c. first_of parameter.Request c (first_fault (refusal map sequence t) (order o))) (ap result_err is)
    ∙ none

-- ---- the values of feature information

module _ (map : MapFields) (sequence : ℕ) (crs : Crs) (names queried : List (List ℕ)) (r : InformationRequest) (is : IsInformation map crs names queried r) where
  -- the texts of the query
  abbrev u : Texts
  u = plain_texts (picture_pairs crs operation.Information names r.map ++ feature_pairs queried r)

  -- QUERY_LAYERS lists the names
  asked-are : asked_in map u ≡ Ok r.layers
  asked-are =
      ap (λ ns. asked_of map ns (names_of (given u parameter.QueryLayers))) (names-are map sequence crs operation.Information names r.map (feature_pairs queried r) is.map)
      ∙ ap (λ text. asked_of map names (names_of text))
      (some-given _ (names-some queried (omega (arith, same-count map r.layers queried is.named, is.some)) (each-some map r.layers queried is.named)))
      ∙ ap (asked_of map names) (names-split queried (omega (arith, same-count map r.layers queried is.named, is.some)) (no-commas map r.layers queried is.named))
      ∙ asked-written map r.map.chosen names r.layers queried is.some is.most is.map.named is.named is.chosen is.queryable

  -- the count and the pixel
  count-is : feature_count_of (given u parameter.FeatureCount) ≡ Ok r.count
  count-is =
      ap feature_count_of (some-given (decimal r.count) (numeral r.count (omega (arith, is.count))).some) ∙ count-written r.count is.one is.count

  column-is : column_in u ≡ Ok r.column
  column-is =
      ap (λ s. and_then s (λ side. pixel_of side (given u parameter.Column))) (width-is map sequence crs operation.Information names r.map (feature_pairs queried r) is.map)
      ∙ ap (pixel_of r.map.width) (some-given (decimal r.column) (numeral r.column (omega (arith, is.column, is.map.width.most))).some)
      ∙ pixel-written r.map.width r.column is.map.width.most is.column

  row-is : row_in u ≡ Ok r.row
  row-is =
      ap (λ s. and_then s (λ side. pixel_of side (given u parameter.Row))) (height-is map sequence crs operation.Information names r.map (feature_pairs queried r) is.map)
      ∙ ap (pixel_of r.map.height) (some-given (decimal r.row) (numeral r.row (omega (arith, is.row, is.map.height.most))).some)
      ∙ pixel-written r.map.height r.row is.map.height.most is.row

  -- no parameter of GetFeatureInfo is refused
  features-accepted : AreAccepted (refusal map sequence u) information_order
  features-accepted = (ap result_err asked-are, (refl, (ap result_err count-is, (ap result_err column-is, (ap result_err row-is, tt)))))

  information-no_fault : first_fault (refusal map sequence u) (order operation.Information) ≡ None
  information-no_fault =
      none-both (refusal map sequence u) map_order information_order
      (map-accepted map sequence crs operation.Information names r.map (feature_pairs queried r) is.map) features-accepted

  information-are : HasInformation map u r
  information-are = record {
    map = values-are map sequence crs operation.Information names r.map (feature_pairs queried r) is.map;
    layers = asked-are;
    count = count-is;
    column = column-is;
    row = row-is;
  }

-- ---- the law

-- the texts that are written out mean the request
texts-meant : (map : MapFields) (sequence : ℕ) (crs : Crs) (names queried : List (List ℕ)) (r : Request) → IsWritable map crs names queried r →
    IsMeaningOf map sequence (plain_texts (written_pairs crs names queried r)) (Ok r)
texts-meant map sequence crs names queried request.Capabilities is =
    let known = ap operation_of (name-some operation.Capabilities) ∙ operation-written operation.Capabilities in
    (no-fault map sequence (plain_texts (written_pairs crs names queried request.Capabilities)) operation.Capabilities refl known refl, known)
texts-meant map sequence crs names queried (request.Map r) is =
    let known = operation-is map sequence crs operation.Map names r [] is in
    let accepted = map-accepted map sequence crs operation.Map names r [] is in (
      no-fault map sequence (plain_texts (picture_pairs crs operation.Map names r)) operation.Map refl known
          (none-refused (refusal map sequence (plain_texts (picture_pairs crs operation.Map names r))) map_order accepted),
      (known, values-are map sequence crs operation.Map names r [] is),
    )
texts-meant map sequence crs names queried (request.Information r) is =
    let known = operation-is map sequence crs operation.Information names r.map (feature_pairs queried r) is.map in (
      no-fault map sequence (plain_texts (written_pairs crs names queried (request.Information r))) operation.Information refl known
          (information-no_fault map sequence crs names queried r is),
      (known, information-are map sequence crs names queried r is),
    )

-- a query that is written out means its request
pub written-is-meant : WrittenIsMeant
written-is-meant map sequence crs names queried r is =
    subst (λ pairs. IsMeaningOf map sequence (texts_of pairs) (Ok r))
    (sym (pairs-written (written_pairs crs names queried r) (all-texts map crs names queried r is).all))
    (texts-meant map sequence crs names queried r is)
