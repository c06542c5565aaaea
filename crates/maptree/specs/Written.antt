-- Mapfiles that are written out from what they say (docs/MAPFILE.md, "Blocks and words").
use Rattle.std.specs.Prelude.{◌≡◌, ℕ, ℤ, ◌<◌, ◌≤◌, Bool, true, false, List, [], ◌∷◌, ◌++◌, length, map, codes, All, unsigned_abs, Option, None, Some, Ok}
use Rattle.std.specs.List.{join_with_byte}
use Rattle.std.specs.Fmt.{decimal}
use Rattle.geom.specs.declared.micro.TheConstants.{NUMBER_LIMIT}
use Rattle.geom.specs.World.{Place, Area, IsCoordinate, IsExtent}
use Rattle.geom.specs.Written.{written}
use Rattle.mapdefs.specs.declared.colour.Rgb.{Rgb}
use Rattle.mapdefs.specs.declared.layer.Geometry.{Geometry}
use Rattle.mapdefs.specs.declared.layer.Geometry.TheVariants.{Point, Line, Polygon}
use Rattle.mapdefs.specs.declared.limits.TheConstants.{MAX_VERTICES, MAX_LINE_WIDTH, MAX_SQUARE, MAX_TOLERANCE, MAX_PRIORITY, MAX_BUFFER, MAX_DISTANCE, MAX_OUTLINE_WIDTH, MAX_ITEMS}
use Rattle.mapdefs.specs.declared.class.Rule.TheVariants.{Equals, OneOf}
use Rattle.mapdefs.specs.declared.label.Position.{Position}
use Rattle.mapdefs.specs.declared.label.Position.TheVariants.{UpperLeft, UpperCentre, UpperRight, CentreLeft, Centre, CentreRight, LowerLeft, LowerCentre, LowerRight, Automatic}
use Rattle.maplex.specs.declared.fault.Tail.TheVariants as tails
use Rattle.maplex.specs.declared.token.Shape.TheVariants as shape
use Rattle.maplex.specs.Token.{TokenValue}
use Rattle.mapwords.specs.declared.font.FontKey.TheVariants as fonts
use Rattle.mapwords.specs.declared.role.Block.{Block}
use Rattle.mapwords.specs.declared.role.Block.TheVariants as block
use Rattle.mapwords.specs.declared.role.Expected.{Expected}
use Rattle.mapwords.specs.declared.role.Expected.TheVariants as expected
use Rattle.mapwords.specs.declared.symbol.SymbolType.{SymbolType}
use Rattle.mapwords.specs.declared.symbol.SymbolType.TheVariants.{Pixmap, Ellipse}
use Rattle.mapwords.specs.declared.table.CountKeyword.{CountKeyword}
use Rattle.mapwords.specs.declared.table.CountKeyword.TheVariants as counts
use Rattle.mapwords.specs.declared.table.ColourKeyword.{ColourKeyword}
use Rattle.mapwords.specs.declared.table.ColourKeyword.TheVariants as colours
use Rattle.mapwords.specs.declared.table.FlagKeyword.{FlagKeyword}
use Rattle.mapwords.specs.declared.table.FlagKeyword.TheVariants as flags
use Rattle.mapwords.specs.declared.table.ScaleKeyword.{ScaleKeyword}
use Rattle.mapwords.specs.declared.table.ScaleKeyword.TheVariants as scales
use Rattle.mapwords.specs.declared.table.TextKeyword.{TextKeyword}
use Rattle.mapwords.specs.declared.table.TextKeyword.TheVariants as texts
use Rattle.mapwords.specs.declared.value.Value.{Value}
use Rattle.mapwords.specs.declared.value.Value.TheVariants as value
use Rattle.mapwords.specs.Rule.{is_comma}
use Rattle.mapwords.specs.Smoothing.{factor_of}
use Rattle.mapwords.specs.Value.{is_table_name, named}
use Rattle.maptree.specs.Entries.{Entries, Nothing, Said, Vertex, Inside, values, vertex_count}
use Rattle.maptree.specs.Meaning.{meaning}
use Rattle.maptree.specs.Says.{closing_fault, is_full}
use Rattle.maptree.specs.Smoothing.{is_smooth}

-- a bare word on a line
abbrev pub bare : ℕ → List ℕ → TokenValue
bare line text = record { shape = shape.Word; text = text; line = line }

-- a quoted text on a line
abbrev pub quoted : ℕ → List ℕ → TokenValue
quoted line text = record { shape = shape.Text; text = text; line = line }

-- a List on a line
abbrev pub listed : ℕ → List ℕ → TokenValue
listed line text = record { shape = shape.List; text = text; line = line }

-- the texts of a colour: its red, green and blue, and -1 of each for none
abbrev pub colour_texts : Option Rgb → List (List ℕ)
colour_texts None = codes "-1" ∷ codes "-1" ∷ codes "-1" ∷ []
colour_texts (Some colour) = decimal colour.red ∷ decimal colour.green ∷ decimal colour.blue ∷ []

-- how a label's position is written
abbrev pub position_text : Position → List ℕ
position_text UpperLeft = codes "UL"
position_text UpperCentre = codes "UC"
position_text UpperRight = codes "UR"
position_text CentreLeft = codes "CL"
position_text Centre = codes "CC"
position_text CentreRight = codes "CR"
position_text LowerLeft = codes "LL"
position_text LowerCentre = codes "LC"
position_text LowerRight = codes "LR"
position_text Automatic = codes "AUTO"

-- how a flag is written
abbrev pub flag_text : Bool → List ℕ
flag_text true = codes "TRUE"
flag_text false = codes "FALSE"

-- how a geometry is written
abbrev pub geometry_text : Geometry → List ℕ
geometry_text Point = codes "POINT"
geometry_text Line = codes "LINE"
geometry_text Polygon = codes "POLYGON"

-- how the type of a symbol is written
abbrev pub type_text : SymbolType → List ℕ
type_text Pixmap = codes "PIXMAP"
type_text Ellipse = codes "ELLIPSE"

-- a setting of a PROCESSING on a line
abbrev pub setting : List ℕ → List ℕ → ℕ → List TokenValue
setting key text line = bare line (codes "PROCESSING") ∷ quoted line (key ++ (61 ∷ text)) ∷ []

-- how the keyword of a block is written
abbrev pub block_text : Block → List ℕ
block_text block.Map = codes "MAP"
block_text block.Layer = codes "LAYER"
block_text block.Class = codes "CLASS"
block_text block.Style = codes "STYLE"
block_text block.Feature = codes "FEATURE"
block_text block.Points = codes "POINTS"
block_text block.Validation = codes "VALIDATION"
block_text block.Projection = codes "PROJECTION"
block_text block.Skipped = codes "LEGEND"
block_text block.SkippedLabel = codes "LABEL"
block_text block.Label = codes "LABEL"
block_text block.Web = codes "WEB"
block_text block.Symbol = codes "SYMBOL"
block_text block.WebMetadata = codes "METADATA"
block_text block.LayerMetadata = codes "METADATA"

-- the components of a colour are bytes
pub record IsColour (colour : Rgb) : Type 0 where
  pub red : colour.red < 256
  pub green : colour.green < 256
  pub blue : colour.blue < 256

-- the names in a list between commas have no comma themselves
abbrev pub HasNoComma : List ℕ → Type 0
HasNoComma name = All (λ byte. is_comma byte ≡ false) name

-- the keywords of each block as they are written, and what each takes in a map that is smoothed so far, or isn't
pub data IsKeyword : Bool → Block → List ℕ → Expected → Type 0 where
  map_name : (smooth : Bool) → IsKeyword smooth block.Map (codes "NAME") (expected.Text texts.Name)
  map_extent : (smooth : Bool) → IsKeyword smooth block.Map (codes "EXTENT") expected.West
  symbol_name : (smooth : Bool) → IsKeyword smooth block.Symbol (codes "NAME") (expected.Text texts.Name)
  symbol_type : IsKeyword false block.Symbol (codes "TYPE") expected.Pixmap
  smooth_type : IsKeyword true block.Symbol (codes "TYPE") expected.SymbolType
  symbol_points : IsKeyword true block.Symbol (codes "POINTS") (expected.Radii 2)
  symbol_filled : IsKeyword true block.Symbol (codes "FILLED") expected.Filled
  symbol_image : (smooth : Bool) → IsKeyword smooth block.Symbol (codes "IMAGE") (expected.Text texts.Image)
  layer_name : (smooth : Bool) → IsKeyword smooth block.Layer (codes "NAME") (expected.Text texts.Name)
  layer_type : (smooth : Bool) → IsKeyword smooth block.Layer (codes "TYPE") expected.Geometry
  layer_data : (smooth : Bool) → IsKeyword smooth block.Layer (codes "DATA") expected.Table
  class_item : (smooth : Bool) → IsKeyword smooth block.Layer (codes "CLASSITEM") (expected.Text texts.ClassItem)
  label_item : (smooth : Bool) → IsKeyword smooth block.Layer (codes "LABELITEM") (expected.Text texts.LabelItem)
  template : (smooth : Bool) → IsKeyword smooth block.Layer (codes "TEMPLATE") (expected.Text texts.Template)
  layer_tolerance : (smooth : Bool) → IsKeyword smooth block.Layer (codes "TOLERANCE") (expected.Count counts.Tolerance)
  layer_min : (smooth : Bool) → IsKeyword smooth block.Layer (codes "MINSCALEDENOM") (expected.Scale scales.Min)
  layer_max : (smooth : Bool) → IsKeyword smooth block.Layer (codes "MAXSCALEDENOM") (expected.Scale scales.Max)
  class_rule : (smooth : Bool) → IsKeyword smooth block.Class (codes "EXPRESSION") expected.Rule
  class_min : (smooth : Bool) → IsKeyword smooth block.Class (codes "MINSCALEDENOM") (expected.Scale scales.Min)
  class_max : (smooth : Bool) → IsKeyword smooth block.Class (codes "MAXSCALEDENOM") (expected.Scale scales.Max)
  style_colour : (smooth : Bool) → IsKeyword smooth block.Style (codes "COLOR") (expected.Colour colours.Color)
  style_outline : (smooth : Bool) → IsKeyword smooth block.Style (codes "OUTLINECOLOR") (expected.Colour colours.OutlineColor)
  style_width : (smooth : Bool) → IsKeyword smooth block.Style (codes "WIDTH") (expected.Count counts.Width)
  style_size : (smooth : Bool) → IsKeyword smooth block.Style (codes "SIZE") (expected.Count counts.Size)
  style_symbol : (smooth : Bool) → IsKeyword smooth block.Style (codes "SYMBOL") (expected.Text texts.Symbol)
  label_colour : (smooth : Bool) → IsKeyword smooth block.Label (codes "COLOR") (expected.Colour colours.Color)
  label_outline : (smooth : Bool) → IsKeyword smooth block.Label (codes "OUTLINECOLOR") (expected.Colour colours.OutlineColor)
  label_priority : (smooth : Bool) → IsKeyword smooth block.Label (codes "PRIORITY") (expected.Count counts.Priority)
  label_position : (smooth : Bool) → IsKeyword smooth block.Label (codes "POSITION") expected.Position
  label_buffer : (smooth : Bool) → IsKeyword smooth block.Label (codes "BUFFER") (expected.Count counts.Buffer)
  label_distance : (smooth : Bool) → IsKeyword smooth block.Label (codes "MINDISTANCE") (expected.Count counts.MinDistance)
  label_partials : (smooth : Bool) → IsKeyword smooth block.Label (codes "PARTIALS") (expected.Flag flags.Partials)
  label_outline_width : (smooth : Bool) → IsKeyword smooth block.Label (codes "OUTLINEWIDTH") (expected.Text texts.OutlineWidth)
  label_font : (smooth : Bool) → IsKeyword smooth block.Label (codes "FONT") (expected.Text texts.Font)
  label_force : (smooth : Bool) → IsKeyword smooth block.Label (codes "FORCE") (expected.Flag flags.Force)
  feature_text : (smooth : Bool) → IsKeyword smooth block.Feature (codes "TEXT") (expected.Text texts.Text)
  feature_items : (smooth : Bool) → IsKeyword smooth block.Feature (codes "ITEMS") (expected.Text texts.Items)

-- the keys of METADATA as they are written, and what each gives
pub data IsKey : Block → List ℕ → TextKeyword → Type 0 where
  service_wms_title : IsKey block.WebMetadata (codes "wms_title") texts.WmsTitle
  service_ows_title : IsKey block.WebMetadata (codes "ows_title") texts.OwsTitle
  service_wms_address : IsKey block.WebMetadata (codes "wms_onlineresource") texts.WmsOnlineResource
  service_ows_address : IsKey block.WebMetadata (codes "ows_onlineresource") texts.OwsOnlineResource
  layer_wms_title : IsKey block.LayerMetadata (codes "wms_title") texts.WmsTitle
  layer_ows_title : IsKey block.LayerMetadata (codes "ows_title") texts.OwsTitle

-- the least count that each keyword takes
abbrev pub least_count : CountKeyword → ℕ
least_count counts.Width = 1
least_count counts.Size = 1
least_count counts.Tolerance = 0
least_count counts.Priority = 1
least_count counts.Buffer = 0
least_count counts.MinDistance = 0
least_count counts.OutlineWidth = 1

-- and the greatest
abbrev pub most_count : CountKeyword → ℕ
most_count counts.Width = MAX_LINE_WIDTH
most_count counts.Size = MAX_SQUARE
most_count counts.Tolerance = MAX_TOLERANCE
most_count counts.Priority = MAX_PRIORITY
most_count counts.Buffer = MAX_BUFFER
most_count counts.MinDistance = MAX_DISTANCE
most_count counts.OutlineWidth = MAX_OUTLINE_WIDTH

-- a count that a keyword takes
pub record IsCount (keyword : CountKeyword) (n : ℕ) : Type 0 where
  pub least : least_count keyword ≤ n
  pub most : n ≤ most_count keyword

-- the tokens that give a block of a map that is smoothed so far, or isn't, a value; the expressions of classes have a grammar and a law of their own
pub data IsWritten : Bool → Block → Value → List TokenValue → Type 0 where
  text : (smooth : Bool) (b : Block) (word : List ℕ) (keyword : TextKeyword) (given : List ℕ) (line : ℕ) → IsKeyword smooth b word (expected.Text keyword) →
      IsWritten smooth b (value.Text keyword (named given line)) (bare line word ∷ quoted line given ∷ [])
  table : (smooth : Bool) (b : Block) (word given : List ℕ) (line : ℕ) → IsKeyword smooth b word expected.Table → is_table_name given ≡ true →
      IsWritten smooth b (value.Text texts.Data (named given line)) (bare line word ∷ quoted line given ∷ [])
  font : (smooth : Bool) (given : List ℕ) (line : ℕ) →
      IsWritten smooth block.Map (value.Font fonts.Default (named given line)) (bare line (codes "CONFIG") ∷ quoted line (codes "LABELFONT") ∷ quoted line given ∷ [])
  formats : (smooth : Bool) (line : ℕ) →
      IsWritten smooth block.Map (value.Flag flags.Png true) (bare line (codes "CONFIG") ∷ quoted line (codes "WMS_FORMATS") ∷ quoted line (codes "image/png") ∷ [])
  systems : (smooth : Bool) (line : ℕ) →
      IsWritten smooth block.Map (value.Flag flags.Mercator true) (bare line (codes "CONFIG") ∷ quoted line (codes "WMS_CRS") ∷ quoted line (codes "EPSG:3857") ∷ [])
  smoothing : (smooth : Bool) (n line : ℕ) (given : List ℕ) → factor_of given ≡ Some n →
      IsWritten smooth block.Map (value.Smoothing (record { factor = n; line = line }))
      (bare line (codes "CONFIG") ∷ quoted line (codes "WMS_SMOOTHING") ∷ quoted line given ∷ [])
  metadata : (smooth : Bool) (b : Block) (key : List ℕ) (keyword : TextKeyword) (given : List ℕ) (line : ℕ) → IsKey b key keyword →
      IsWritten smooth b (value.Text keyword (named given line)) (quoted line key ∷ quoted line given ∷ [])
  csv_x : (smooth : Bool) (given : List ℕ) (line : ℕ) → IsWritten smooth block.Layer (value.Text texts.CsvX (named given line)) (setting (codes "CSV_X") given line)
  csv_y : (smooth : Bool) (given : List ℕ) (line : ℕ) → IsWritten smooth block.Layer (value.Text texts.CsvY (named given line)) (setting (codes "CSV_Y") given line)
  items : (smooth : Bool) (names : List (List ℕ)) (line : ℕ) → 1 ≤ length names → length names ≤ MAX_ITEMS → All HasNoComma names →
      IsWritten smooth block.Layer (value.Items names) (setting (codes "ITEMS") (join_with_byte 44 names) line)
  count : (smooth : Bool) (b : Block) (word : List ℕ) (keyword : CountKeyword) (n line : ℕ) → IsKeyword smooth b word (expected.Count keyword) → IsCount keyword n →
      IsWritten smooth b (value.Count (record { keyword = keyword; number = n })) (bare line word ∷ bare line (decimal n) ∷ [])
  flag : (smooth : Bool) (b : Block) (word : List ℕ) (keyword : FlagKeyword) (is : Bool) (line : ℕ) → IsKeyword smooth b word (expected.Flag keyword) →
      IsWritten smooth b (value.Flag keyword is) (bare line word ∷ bare line (flag_text is) ∷ [])
  scale : (smooth : Bool) (b : Block) (word : List ℕ) (keyword : ScaleKeyword) (number : ℤ) (line : ℕ) → IsKeyword smooth b word (expected.Scale keyword) →
      unsigned_abs number ≤ NUMBER_LIMIT →
      IsWritten smooth b (value.Scale keyword number) (bare line word ∷ bare line (written number) ∷ [])
  no_colour : (smooth : Bool) (b : Block) (word : List ℕ) (keyword : ColourKeyword) (line : ℕ) → IsKeyword smooth b word (expected.Colour keyword) →
      IsWritten smooth b (value.Colour keyword None) (bare line word ∷ map (bare line) (colour_texts None))
  some_colour : (smooth : Bool) (b : Block) (word : List ℕ) (keyword : ColourKeyword) (rgb : Rgb) (line : ℕ) → IsKeyword smooth b word (expected.Colour keyword) → IsColour rgb →
      IsWritten smooth b (value.Colour keyword (Some rgb)) (bare line word ∷ map (bare line) (colour_texts (Some rgb)))
  geometry : (smooth : Bool) (b : Block) (word : List ℕ) (is : Geometry) (line : ℕ) → IsKeyword smooth b word expected.Geometry →
      IsWritten smooth b (value.Geometry is) (bare line word ∷ bare line (geometry_text is) ∷ [])
  pixmap : (smooth : Bool) (b : Block) (word : List ℕ) (line : ℕ) → IsKeyword smooth b word expected.Pixmap →
      IsWritten smooth b (value.SymbolType Pixmap) (bare line word ∷ bare line (codes "PIXMAP") ∷ [])
  smooth_symbol : (smooth : Bool) (b : Block) (word : List ℕ) (is : SymbolType) (line : ℕ) → IsKeyword smooth b word expected.SymbolType →
      IsWritten smooth b (value.SymbolType is) (bare line word ∷ bare line (type_text is) ∷ [])
  radii : (smooth : Bool) (b : Block) (word : List ℕ) (line : ℕ) → IsKeyword smooth b word (expected.Radii 2) →
      IsWritten smooth b value.Radii (bare line word ∷ bare line (decimal 1) ∷ bare line (decimal 1) ∷ bare line (codes "END") ∷ [])
  filled : (smooth : Bool) (b : Block) (word : List ℕ) (line : ℕ) → IsKeyword smooth b word expected.Filled →
      IsWritten smooth b value.Filled (bare line word ∷ bare line (flag_text true) ∷ [])
  position : (smooth : Bool) (b : Block) (word : List ℕ) (is : Position) (line : ℕ) → IsKeyword smooth b word expected.Position →
      IsWritten smooth b (value.Position is) (bare line word ∷ bare line (position_text is) ∷ [])
  equals : (smooth : Bool) (b : Block) (word given : List ℕ) (line : ℕ) → IsKeyword smooth b word expected.Rule →
      IsWritten smooth b (value.Rule (Equals given)) (bare line word ∷ quoted line given ∷ [])
  one_of : (smooth : Bool) (b : Block) (word : List ℕ) (texts : List (List ℕ)) (line : ℕ) → IsKeyword smooth b word expected.Rule → 1 ≤ length texts → All HasNoComma texts →
      IsWritten smooth b (value.Rule (OneOf texts)) (bare line word ∷ listed line (join_with_byte 44 texts) ∷ [])
  extent : (smooth : Bool) (b : Block) (word : List ℕ) (area : Area) (line : ℕ) → IsKeyword smooth b word expected.West → IsExtent area →
      IsWritten smooth b (value.Extent area)
      (bare line word ∷ bare line (written area.minx) ∷ bare line (written area.miny) ∷ bare line (written area.maxx) ∷ bare line (written area.maxy) ∷ [])

-- the blocks that a block may have
pub data IsBlockIn : Block → Block → Type 0 where
  symbol : IsBlockIn block.Map block.Symbol
  layer : IsBlockIn block.Map block.Layer
  class : IsBlockIn block.Layer block.Class
  feature : IsBlockIn block.Layer block.Feature
  style : IsBlockIn block.Class block.Style
  points : IsBlockIn block.Feature block.Points
  label : IsBlockIn block.Class block.Label
  web : IsBlockIn block.Map block.Web
  web_metadata : IsBlockIn block.Web block.WebMetadata
  layer_metadata : IsBlockIn block.Layer block.LayerMetadata

-- What a block may say, after what its parent says, and the tokens that say it from its first entry to its last. It
-- says its own values, vertices in POINTS as two numbers each, and its own blocks between their keyword and END. Each
-- is within the limits, and none is wrong at its END.
pub data IsWrittenOut : Block → Entries → Entries → List TokenValue → Type 0 where
  nothing : (b : Block) (above : Entries) → IsWrittenOut b above Nothing []
  said : (b : Block) (above before : Entries) (ts : List TokenValue) (v : Value) (us : List TokenValue) → IsWrittenOut b above before ts → IsWritten (is_smooth (values above)) b v us →
      IsWrittenOut b above (Said v before) (ts ++ us)
  vertex : (above before : Entries) (ts : List TokenValue) (place : Place) → IsWrittenOut block.Points above before ts →
      IsCoordinate place.x → IsCoordinate place.y → vertex_count above before < MAX_VERTICES →
      IsWrittenOut block.Points above (Vertex place before) (ts ++ (bare 1 (written place.x) ∷ bare 1 (written place.y) ∷ []))
  inside : (b c : Block) (above before inner : Entries) (ts us : List TokenValue) → IsWrittenOut b above before ts → IsBlockIn b c → is_full c before ≡ false →
      IsWrittenOut c before inner us → ((t : TokenValue) → closing_fault c before inner t ≡ None) →
      IsWrittenOut b above (Inside c inner before) (ts ++ (bare 1 (block_text c) ∷ (us ++ (bare 1 (codes "END") ∷ []))))

-- the law that a mapfile which is written out from what it may say, and whose styles name symbols that it has, is read as
-- that
abbrev pub WrittenIsRead : Type 0
WrittenIsRead = (own : Entries) (ts : List TokenValue) (line : ℕ) → IsWrittenOut block.Map Nothing own ts →
    ((t : TokenValue) → closing_fault block.Map Nothing own t ≡ None) →
    meaning (bare 1 (codes "MAP") ∷ (ts ++ (bare 1 (codes "END") ∷ []))) (tails.Ends line) ≡ Ok own
