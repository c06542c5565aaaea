-- Queries that are written out from a request (OGC 06-042, 7.2 to 7.4; URL Standard, application/x-www-form-urlencoded).
use Rattle.std.specs.Prelude.{◌≡◌, ◌≢◌, ℕ, ◌≤◌, ◌<◌, Bool, true, List, [], ◌∷◌, ◌++◌, All, Contains, length, Option, None, Some, Ok, codes, IsUtf8}
use Rattle.std.specs.Fmt.{decimal}
use Rattle.std.specs.List.{join_with_byte}
use Rattle.form_urlencoded.specs.Form.{extend_pairs}
use Rattle.hex.specs.Hex.{encode_lower}
use Rattle.crsaxes.specs.Axes.{metres_across, parts}
use Rattle.crsaxes.specs.Metres.{metres_down, metres_up}
use Rattle.crsaxes.specs.declared.crs.Crs.{Crs}
use Rattle.crsaxes.specs.declared.crs.Crs.TheVariants.{Crs84, Epsg3857, Epsg4326}
use Rattle.geom.specs.Side.{IsPictureSide}
use Rattle.geom.specs.World.{Area, IsExtent}
use Rattle.geom.specs.Written.{written}
use Rattle.mapdefs.specs.declared.colour.Rgb.{Rgb}
use Rattle.mapdefs.specs.declared.limits.TheConstants.{MAX_FEATURES}
use Rattle.mapdefs.specs.declared.layer.LayerFields.{LayerFields}
use Rattle.mapdefs.specs.declared.map.MapFields.{MapFields}
use Rattle.operations.specs.Operation.{name_of}
use Rattle.operations.specs.declared.operation.Operation.{Operation}
use Rattle.operations.specs.declared.operation.Operation.TheVariants as operation
use Rattle.wmsquery.specs.declared.lists.TheConstants.{MAX_NAMES}
use Rattle.wmsquery.specs.declared.request.Format.{Format}
use Rattle.wmsquery.specs.declared.request.Format.TheVariants.{Png, Pixmap, ArbitraryMap}
use Rattle.wmsquery.specs.declared.request.InformationRequest.{InformationRequest}
use Rattle.wmsquery.specs.declared.request.MapRequest.{MapRequest}
use Rattle.wmsquery.specs.declared.request.Request.{Request}
use Rattle.wmsquery.specs.declared.request.Request.TheVariants as request
use Rattle.wmsquery.specs.Values.{is_queryable}
use Rattle.wmsquery.specs.Meaning.{IsMeaning}

-- texts with a comma between each two
abbrev pub with_commas : List (List ℕ) → List ℕ
with_commas texts = join_with_byte 44 texts

-- the name of a coordinate reference system
abbrev pub crs_text : Crs → List ℕ
crs_text Crs84 = codes "CRS:84"
crs_text Epsg4326 = codes "EPSG:4326"
crs_text Epsg3857 = codes "EPSG:3857"

-- a system is known: web mercator where the map offers it
abbrev pub IsKnown : Bool → Crs → Type 0
IsKnown mercator Crs84 = Unit {0}
IsKnown mercator Epsg4326 = Unit {0}
IsKnown mercator Epsg3857 = mercator ≡ true

-- the sides of a box in the axis order of a system, written out with six decimals: in degrees, or in metres rounded outwards
abbrev pub bbox_text : Crs → Area → List ℕ
bbox_text Crs84 area = with_commas (written area.minx ∷ written area.miny ∷ written area.maxx ∷ written area.maxy ∷ [])
bbox_text Epsg4326 area = with_commas (written area.miny ∷ written area.minx ∷ written area.maxy ∷ written area.maxx ∷ [])
bbox_text Epsg3857 area =
    with_commas (written (metres_down area.minx) ∷ written (metres_down area.miny) ∷ written (metres_up area.maxx) ∷ written (metres_up area.maxy) ∷ [])

-- a colour: `0x` and two hexadecimal digits each of red, green and blue
abbrev pub colour_text : Rgb → List ℕ
colour_text colour = codes "0x" ++ encode_lower (colour.red ∷ colour.green ∷ colour.blue ∷ [])

-- the name of a format
abbrev pub format_text : Format → List ℕ
format_text Png = codes "image/png"
format_text Pixmap = codes "image/x-portable-pixmap"
format_text ArbitraryMap = codes "image/x-portable-arbitrarymap"

-- the picture is transparent where it has no background
abbrev pub transparent_text : Option Rgb → List ℕ
transparent_text None = codes "TRUE"
transparent_text (Some colour) = codes "FALSE"

-- the colour of a background; where there is none, any does
abbrev pub background_text : Option Rgb → List ℕ
background_text None = colour_text (record { red = 255; green = 255; blue = 255 })
background_text (Some colour) = colour_text colour

-- the parameters of an operation that say which picture, for the layers of some names, in a system
abbrev pub picture_pairs : Crs → Operation → List (List ℕ) → MapRequest → List (List ℕ × List ℕ)
picture_pairs crs o names picture =
    (codes "REQUEST", name_of o)
    ∷ (codes "VERSION", codes "1.3.0")
    ∷ (codes "LAYERS", with_commas names)
    ∷ (codes "STYLES", [])
    ∷ (codes "CRS", crs_text crs)
    ∷ (codes "BBOX", bbox_text crs picture.area)
    ∷ (codes "WIDTH", decimal picture.width)
    ∷ (codes "HEIGHT", decimal picture.height)
    ∷ (codes "FORMAT", format_text picture.format)
    ∷ (codes "TRANSPARENT", transparent_text picture.background)
    ∷ (codes "BGCOLOR", background_text picture.background)
    ∷ []

-- the parameters that say which features are requested, of the layers with some names
abbrev pub feature_pairs : List (List ℕ) → InformationRequest → List (List ℕ × List ℕ)
feature_pairs queried information =
    (codes "QUERY_LAYERS", with_commas queried)
    ∷ (codes "INFO_FORMAT", codes "text/plain")
    ∷ (codes "FEATURE_COUNT", decimal information.count)
    ∷ (codes "I", decimal information.column)
    ∷ (codes "J", decimal information.row)
    ∷ []

-- the parameters of a request in a system, for the layers with some names, and for those with others, whose features are requested
abbrev pub written_pairs : Crs → List (List ℕ) → List (List ℕ) → Request → List (List ℕ × List ℕ)
written_pairs crs names queried request.Capabilities = (codes "REQUEST", name_of operation.Capabilities) ∷ []
written_pairs crs names queried (request.Map picture) = picture_pairs crs operation.Map names picture
written_pairs crs names queried (request.Information information) =
    picture_pairs crs operation.Information names information.map ++ feature_pairs queried information

-- the query of these parameters, escaped as forms are
abbrev pub written_query : Crs → List (List ℕ) → List (List ℕ) → Request → List ℕ
written_query crs names queried request = extend_pairs [] (written_pairs crs names queried request)

-- the layer at an index has this name, is switched on, and no layer before it has the name; a query can list the name
pub record IsNamed (map : MapFields) (index : ℕ) (name : List ℕ) : Type 0 where
  pub before : List LayerFields
  pub layer : LayerFields
  pub after : List LayerFields
  pub layers : map.layers ≡ before ++ layer ∷ after
  pub at : length before ≡ index
  pub named : layer.name ≡ name
  pub on : layer.on ≡ true
  pub first : All (λ (other : LayerFields). other.name ≢ name) before
  pub some : 1 ≤ length name
  pub text : IsUtf8 name
  pub bytes : All (λ b. b < 256) name
  pub no_comma : All (λ b. b ≢ 44) name

-- the layers at some indices have these names
abbrev pub AreNamed : MapFields → List ℕ → List (List ℕ) → Type 0
AreNamed map [] [] = Unit {0}
AreNamed map (index ∷ indices) (name ∷ names) = IsNamed map index name × AreNamed map indices names
AreNamed map [] (name ∷ names) = ⊥
AreNamed map (index ∷ indices) [] = ⊥

-- a colour has three bytes
pub record IsColour (colour : Rgb) : Type 0 where
  pub red : colour.red < 256
  pub green : colour.green < 256
  pub blue : colour.blue < 256

-- a format is offered: PNG where the map says so
abbrev pub IsOffered : Bool → Format → Type 0
IsOffered png Png = png ≡ true
IsOffered png Pixmap = Unit {0}
IsOffered png ArbitraryMap = Unit {0}

-- a background is a colour, or in PNG and in an arbitrary map none
abbrev pub IsBackground : Format → Option Rgb → Type 0
IsBackground format (Some colour) = IsColour colour
IsBackground Png None = Unit {0}
IsBackground ArbitraryMap None = Unit {0}
IsBackground Pixmap None = ⊥

-- a request of 1 to `MAX_NAMES` layers of these names, an extent of the world in a known system, the metres of its box as it is
-- written, sides that a picture may have, a format that the map offers, and a background of its format
pub record IsPicture (map : MapFields) (crs : Crs) (names : List (List ℕ)) (request : MapRequest) : Type 0 where
  pub some : 1 ≤ length request.chosen
  pub most : length request.chosen ≤ MAX_NAMES
  pub named : AreNamed map request.chosen names
  pub own : request.crs ≡ crs
  pub known : IsKnown map.mercator crs
  pub area : IsExtent request.area
  pub metres : metres_across crs (parts (bbox_text crs request.area)) ≡ request.metres
  pub width : IsPictureSide request.width
  pub height : IsPictureSide request.height
  pub format : IsOffered map.png request.format
  pub background : IsBackground request.format request.background

-- a request for 1 to `MAX_NAMES` layers of a picture that are queryable, by these names, a count of features that a layer may
-- have, and a pixel of the picture
pub record IsInformation (m : MapFields) (crs : Crs) (names queried : List (List ℕ)) (request : InformationRequest) : Type 0 where
  pub map : IsPicture m crs names request.map
  pub some : 1 ≤ length request.layers
  pub most : length request.layers ≤ MAX_NAMES
  pub named : AreNamed m request.layers queried
  pub chosen : All (Contains request.map.chosen) request.layers
  pub queryable : All (λ index. is_queryable m index ≡ true) request.layers
  pub one : 1 ≤ request.count
  pub count : request.count ≤ MAX_FEATURES
  pub column : request.column < request.map.width
  pub row : request.row < request.map.height

-- the request can be written out, with these names
abbrev pub IsWritable : MapFields → Crs → List (List ℕ) → List (List ℕ) → Request → Type 0
IsWritable map crs names queried request.Capabilities = Unit {0}
IsWritable map crs names queried (request.Map picture) = IsPicture map crs names picture
IsWritable map crs names queried (request.Information information) = IsInformation map crs names queried information

-- the law that a query that is written out from a request means that request, in each system and at each sequence
abbrev pub WrittenIsMeant : Type 0
WrittenIsMeant = (map : MapFields) (sequence : ℕ) (crs : Crs) (names queried : List (List ℕ)) (request : Request) →
    IsWritable map crs names queried request → IsMeaning map sequence (written_query crs names queried request) (Ok request)
