-- The values that a block was given, the last one first, of which the last of each keyword counts (docs/MAPFILE.md, "Blocks and words").
use Rattle.std.specs.Prelude.{ℕ, ℤ, ◌==◌, if◌then◌else◌, Bool, true, false, List, [], ◌∷◌, Option, None, Some, is_some, option_map}
use Rattle.std.specs.Option.{option_or}
use Rattle.geom.specs.World.{Area}
use Rattle.mapdefs.specs.declared.class.Rule.{Rule}
use Rattle.mapdefs.specs.declared.colour.Rgb.{Rgb}
use Rattle.mapdefs.specs.declared.label.Position.{Position}
use Rattle.mapdefs.specs.declared.layer.Geometry.{Geometry}
use Rattle.mapwords.specs.Count.{number_of}
use Rattle.mapwords.specs.Table.{text_number, flag_number, scale_number, colour_number}
use Rattle.mapwords.specs.declared.named.Named.{Named}
use Rattle.mapwords.specs.declared.smoothing.Smoothing.{Smoothing}
use Rattle.mapwords.specs.declared.symbol.SymbolType.{SymbolType}
use Rattle.mapwords.specs.declared.table.TextKeyword.{TextKeyword}
use Rattle.mapwords.specs.declared.table.CountKeyword.{CountKeyword}
use Rattle.mapwords.specs.declared.table.FlagKeyword.{FlagKeyword}
use Rattle.mapwords.specs.declared.table.ScaleKeyword.{ScaleKeyword}
use Rattle.mapwords.specs.declared.table.ColourKeyword.{ColourKeyword}
use Rattle.mapwords.specs.declared.value.Value.{Value}
use Rattle.mapwords.specs.declared.value.Value.TheVariants as value
use Rattle.mapvalues.specs.declared.values.Wanted.{Wanted}
use Rattle.mapvalues.specs.declared.values.Wanted.TheVariants as wanted

-- the text of a keyword, with its line
abbrev pub text_in : TextKeyword → Value → Option Named
text_in keyword (value.Text other named) = if text_number other == text_number keyword then Some named else None
text_in keyword _ = None

-- the same without its line
abbrev pub words_in : TextKeyword → Value → Option (List ℕ)
words_in keyword v = option_map (λ (named : Named). named.text) (text_in keyword v)

-- the count of a keyword
abbrev pub count_in : CountKeyword → Value → Option ℕ
count_in keyword (value.Count count) = number_of keyword count
count_in keyword _ = None

-- the flag of a keyword
abbrev pub flag_in : FlagKeyword → Value → Option Bool
flag_in keyword (value.Flag other flag) = if flag_number other == flag_number keyword then Some flag else None
flag_in keyword _ = None

-- the scale denominator of a keyword
abbrev pub scale_in : ScaleKeyword → Value → Option ℤ
scale_in keyword (value.Scale other scale) = if scale_number other == scale_number keyword then Some scale else None
scale_in keyword _ = None

-- the colour of a keyword, which may be none
abbrev pub colour_in : ColourKeyword → Value → Option (Option Rgb)
colour_in keyword (value.Colour other colour) = if colour_number other == colour_number keyword then Some colour else None
colour_in keyword _ = None

-- the geometry of a layer
abbrev pub geometry_in : Value → Option Geometry
geometry_in (value.Geometry geometry) = Some geometry
geometry_in _ = None

-- the position of a label
abbrev pub position_in : Value → Option Position
position_in (value.Position position) = Some position
position_in _ = None

-- the rule of a class
abbrev pub rule_in : Value → Option Rule
rule_in (value.Rule rule) = Some rule
rule_in _ = None

-- the names of a layer's items
abbrev pub items_in : Value → Option (List (List ℕ))
items_in (value.Items items) = Some items
items_in _ = None

-- the extent of a map
abbrev pub extent_in : Value → Option Area
extent_in (value.Extent extent) = Some extent
extent_in _ = None

-- the type of a symbol
abbrev pub type_in : Value → Option SymbolType
type_in (value.SymbolType type) = Some type
type_in _ = None

-- how smooth the pictures of a map are
abbrev pub smoothing_in : Value → Option Smoothing
smoothing_in (value.Smoothing smoothing) = Some smoothing
smoothing_in _ = None

-- a value is the radii of a disc
abbrev pub is_radii : Value → Bool
is_radii value.Radii = true
is_radii _ = false

-- or says that it is filled
abbrev pub is_filled : Value → Bool
is_filled value.Filled = true
is_filled _ = false

-- a value is what is looked for
abbrev pub is_wanted : Wanted → Value → Bool
is_wanted (wanted.Text keyword) v = is_some (text_in keyword v)
is_wanted (wanted.Count keyword) v = is_some (count_in keyword v)
is_wanted (wanted.Flag keyword) v = is_some (flag_in keyword v)
is_wanted (wanted.Scale keyword) v = is_some (scale_in keyword v)
is_wanted (wanted.Colour keyword) v = is_some (colour_in keyword v)
is_wanted wanted.Geometry v = is_some (geometry_in v)
is_wanted wanted.Position v = is_some (position_in v)
is_wanted wanted.Extent v = is_some (extent_in v)
is_wanted wanted.SymbolType v = is_some (type_in v)
is_wanted wanted.Smoothing v = is_some (smoothing_in v)

-- what is looked for, of the last of the values that has it
abbrev pub last : {A : Type 0} → (Value → Option A) → List Value → Option A
last wanted [] = None
last wanted (v ∷ vs) = option_or (wanted v) (last wanted vs)
