-- Values, and how they are read (docs/MAPFILE.md, "Values").
use Rattle.std.specs.Prelude.{ℕ, zero, suc, eqb, ℤ, int_lt, Bool, true, false, List, codes, if◌then◌else◌, Option, None, Some, Result, Ok}
use Rattle.std.specs.List.{ends_with}
use Rattle.std.specs.Option.{option_map, ok_or}
use Rattle.std.specs.Str.{str_eq_ignore_ascii_case}
use Rattle.maplex.specs.declared.token.Shape.{Shape}
use Rattle.maplex.specs.declared.token.Shape.TheVariants.{Word, Text}
use Rattle.maplex.specs.Token.{TokenValue}
use Rattle.geom.specs.Number.{coordinate_of}
use Rattle.mapdefs.specs.declared.colour.Rgb.{Rgb}
use Rattle.mapdefs.specs.declared.layer.Geometry.{Geometry}
use Rattle.mapdefs.specs.declared.layer.Geometry.TheVariants.{Point, Line, Polygon}
use Rattle.mapwords.specs.declared.colour.Component.{Component}
use Rattle.mapwords.specs.declared.named.Named.{Named}
use Rattle.mapwords.specs.declared.table.ColourKeyword.{ColourKeyword}
use Rattle.mapwords.specs.declared.table.TextKeyword.TheVariants.{Data}
use Rattle.mapwords.specs.declared.table.FlagKeyword.TheVariants.{Png, Mercator}
use Rattle.mapwords.specs.declared.table.OnlyWord.{OnlyWord}
use Rattle.mapwords.specs.declared.table.OnlyWord.TheVariants.{Pixels, On}
use Rattle.mapwords.specs.declared.role.Expected.{Expected}
use Rattle.mapwords.specs.declared.role.Expected.TheVariants as expected
use Rattle.mapwords.specs.declared.value.Value.TheVariants as value
use Rattle.mapwords.specs.declared.value.ValueStep.{ValueStep}
use Rattle.mapwords.specs.declared.value.ValueStep.TheVariants.{More, Whole}
use Rattle.mapdefs.specs.Name.{is_same_name}
use Rattle.mapwords.specs.declared.fault.Fault.{Fault}
use Rattle.mapwords.specs.declared.fault.ParseKind.TheVariants.{WrongValue, BadExpression}
use Rattle.mapwords.specs.Fault.{fault_of, refused}
use Rattle.mapwords.specs.Extent.{extent_of}
use Rattle.mapwords.specs.declared.font.FontKey.TheVariants as font
use Rattle.mapwords.specs.Font.{after_labelfont, font_name, font_name_of}
use Rattle.mapwords.specs.Label.{position_of, flag_of}
use Rattle.mapwords.specs.declared.offer.Offer.TheVariants as offer
use Rattle.mapwords.specs.Offer.{offered}
use Rattle.mapwords.specs.Rule.{rule_of}
use Rattle.mapwords.specs.Setting.{setting_step}
use Rattle.mapwords.specs.Smoothing.{read_smoothing}
use Rattle.mapwords.specs.Symbol.{pixmap_step, type_step, radii_step, filled_step}
use Rattle.mapwords.specs.Count.{read_count, number_in}
use Rattle.mapwords.specs.Colour.{component_of, rgb_of, hex_colour}

-- a text that a keyword was given, and the line of its token
abbrev pub named : List ℕ → ℕ → Named
named text line = record { text = text; line = line }

-- the geometry that a text is
abbrev pub geometry_of : List ℕ → Option Geometry
geometry_of text =
    if str_eq_ignore_ascii_case text (codes "POINT") then Some Point
    else if str_eq_ignore_ascii_case text (codes "LINE") then Some Line
    else if str_eq_ignore_ascii_case text (codes "POLYGON") then Some Polygon
    else None

-- a value is a bare word or a quoted text
abbrev pub is_value : Shape → Bool
is_value Word = true
is_value Text = true
is_value _ = false

-- only a quoted text is a colour of one token
abbrev pub hex_in : Shape → List ℕ → Option Rgb
hex_in Text text = hex_colour text
hex_in _ text = None

-- the colour that a single token is
abbrev pub hex_at : TokenValue → Option Rgb
hex_at t = hex_in t.shape t.text

-- a colour of one token, or the first of its counts
abbrev pub colour_step : ColourKeyword → Option Rgb → Option Component → Option ValueStep
colour_step keyword (Some colour) red = Some (Whole (value.Colour keyword (Some colour)))
colour_step keyword None red = option_map (λ r. More (expected.Green keyword r)) red

-- the green of a colour is followed by its blue
abbrev pub green_step : ColourKeyword → Component → Option Component → Option ValueStep
green_step keyword red green = option_map (λ g. More (expected.Blue keyword red g)) green

-- with its blue a colour is whole
abbrev pub blue_step : ColourKeyword → Component → Component → Option Component → Option ValueStep
blue_step keyword red green blue = option_map (λ b. Whole (value.Colour keyword (rgb_of red green b))) blue

-- the word that is the only value of a keyword
abbrev pub only_text : OnlyWord → List ℕ
only_text Pixels = codes "PIXELS"
only_text On = codes "ON"

-- it may be in letters of either case
abbrev pub only_step : OnlyWord → List ℕ → Option ValueStep
only_step word text = if str_eq_ignore_ascii_case text (only_text word) then Some (Whole value.Nothing) else None

-- a value that has no effect, before so many more
abbrev pub unused_step : ℕ → ValueStep
unused_step zero = Whole value.Nothing
unused_step (suc fewer) = More (expected.Unused fewer)

-- the west of an extent is followed by its south
abbrev pub west_step : Option ℤ → Option ValueStep
west_step west = option_map (λ minx. More (expected.South minx)) west

-- the south of an extent is followed by its east
abbrev pub south_step : ℤ → Option ℤ → Option ValueStep
south_step minx south = option_map (λ miny. More (expected.East minx miny)) south

-- the east of an extent lies to the east of its west
abbrev pub east_step : ℤ → ℤ → Option ℤ → Option ValueStep
east_step minx miny None = None
east_step minx miny (Some maxx) = if int_lt minx maxx then Some (More (expected.North minx miny maxx)) else None

-- the north of an extent lies to the north of its south
abbrev pub north_step : ℤ → ℤ → ℤ → Option ℤ → Option ValueStep
north_step minx miny maxx None = None
north_step minx miny maxx (Some maxy) = option_map (λ area. Whole (value.Extent area)) (extent_of minx miny maxx maxy)

-- a CONFIG has a key and a value: that of LABELFONT names the file of the font of labels that name none, those of WMS_FORMATS
-- and WMS_CRS say what is offered, that of WMS_SMOOTHING how many times as fine the pictures are that are averaged, another has
-- no effect
abbrev pub setting_of : List ℕ → Expected
setting_of key =
    if is_same_name key (codes "LABELFONT") then expected.FontFile font.Default
    else if is_same_name key (codes "WMS_FORMATS") then expected.Formats
    else if is_same_name key (codes "WMS_CRS") then expected.Systems
    else if is_same_name key (codes "WMS_SMOOTHING") then expected.Smoothing
    else expected.Unused 0

-- that of LABELFONT, a space and a name names the file of the font of this name; what is no name may not stand there
abbrev pub config_step : List ℕ → Option ValueStep
config_step key = elim (after_labelfont key) [
  | Some text ↦ option_map (λ name. More (expected.FontFile (font.Named name))) (font_name text)
  | None ↦ Some (More (setting_of key))
]

-- the name of the font whose file comes after a token, if that is a key with one
abbrev pub font_name_at : Expected → TokenValue → Option (List ℕ)
font_name_at expected.ConfigKey t = if is_value t.shape then font_name_of t.text else None
font_name_at _ t = None

-- a token as a value of which nothing is kept but numbers, if it is such a value
abbrev pub plain_step : Expected → TokenValue → Option ValueStep
plain_step expected.Geometry t = option_map (λ geometry. Whole (value.Geometry geometry)) (geometry_of t.text)
plain_step expected.Pixmap t = pixmap_step t.text
plain_step expected.SymbolType t = type_step t.text
plain_step (expected.Radii left) t = radii_step left t
plain_step expected.Filled t = filled_step t.text
plain_step (expected.Count keyword) t = option_map (λ count. Whole (value.Count count)) (read_count keyword t.text)
plain_step expected.Position t = option_map (λ p. Whole (value.Position p)) (position_of t.text)
plain_step (expected.Flag keyword) t = option_map (λ flag. Whole (value.Flag keyword flag)) (flag_of t.text)
plain_step (expected.Scale keyword) t = option_map (λ scale. Whole (value.Scale keyword scale)) (number_in t.text)
plain_step (expected.Colour keyword) t = colour_step keyword (hex_at t) (component_of t.text)
plain_step (expected.Green keyword r) t = green_step keyword r (component_of t.text)
plain_step (expected.Blue keyword r g) t = blue_step keyword r g (component_of t.text)
plain_step expected.West t = west_step (coordinate_of t.text)
plain_step (expected.South x) t = south_step x (coordinate_of t.text)
plain_step (expected.East x y) t = east_step x y (coordinate_of t.text)
plain_step (expected.North x y east) t = north_step x y east (coordinate_of t.text)
plain_step (expected.Only word) t = only_step word t.text
plain_step expected.Formats t = option_map (λ is_offered. Whole (value.Flag Png is_offered)) (offered offer.Png t.text)
plain_step expected.Systems t = option_map (λ is_offered. Whole (value.Flag Mercator is_offered)) (offered offer.Mercator t.text)
plain_step expected.Smoothing t = option_map (λ smoothing. Whole (value.Smoothing smoothing)) (read_smoothing t.text t.line)
plain_step (expected.Unused more) t = Some (unused_step more)
plain_step _ t = None

-- an EXPRESSION takes a rule
abbrev pub rule_step : TokenValue → Result ValueStep Fault
rule_step t = ok_or (option_map (λ rule. Whole (value.Rule rule)) (rule_of t.shape t.text)) (fault_of BadExpression t)

-- a file of a table has a name that ends in .csv
abbrev pub is_table_name : List ℕ → Bool
is_table_name name = ends_with eqb name (codes ".csv")

-- a DATA takes the name of such a file
abbrev pub table_step : TokenValue → Result ValueStep Fault
table_step t = if is_table_name t.text then Ok (Whole (value.Text Data (named t.text t.line))) else refused WrongValue t

-- a token as a value that a keyword expects
abbrev pub step_in : Expected → TokenValue → Result ValueStep Fault
step_in (expected.Text keyword) t = Ok (Whole (value.Text keyword (named t.text t.line)))
step_in expected.Table t = table_step t
step_in expected.Rule t = rule_step t
step_in expected.Setting t = setting_step t
step_in expected.ConfigKey t = ok_or (config_step t.text) (fault_of WrongValue t)
step_in (expected.FontFile key) t = Ok (Whole (value.Font key (named t.text t.line)))
step_in e t = ok_or (plain_step e t) (fault_of WrongValue t)

-- a value is a bare word or a quoted text; only a rule may be a Logic or a List
abbrev pub may_take : Expected → Shape → Bool
may_take expected.Rule shape = true
may_take _ shape = is_value shape

-- a token of a value that a keyword expects
abbrev pub value_step : Expected → TokenValue → Result ValueStep Fault
value_step expected t = if may_take expected t.shape then step_in expected t else refused WrongValue t

-- the coordinate that a token is
abbrev pub coordinate_in : TokenValue → Option ℤ
coordinate_in t = if is_value t.shape then coordinate_of t.text else None
