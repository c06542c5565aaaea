-- From a mapfile as it is written to the map that it describes (docs/MAPFILE.md, "From the file to the map", "Labels",
-- "Keys and values" and "Tables"). What a mapfile doesn't give has its default.
use Rattle.std.specs.Prelude.{ℕ, Bool, true, false, ◌==◌, ◌-◌, List, [], ◌++◌, length, map, take, replicate, codes, pos, neg_ℤ, Option, None, Some, is_some, unwrap_or, option_map, Result, Ok, Err, zip}
use Rattle.std.specs.Option.{option_flatten, option_or}
use Rattle.std.specs.List.{slice_split}
use Rattle.geom.specs.World.{Area}
use Rattle.csvpoints.specs.declared.table.TableFields.{TableFields}
use Rattle.mapdefs.specs.declared.class.Rule.TheVariants.{Always}
use Rattle.mapdefs.specs.declared.class.ClassFields.{ClassFields}
use Rattle.mapdefs.specs.declared.colour.Rgb.{Rgb}
use Rattle.mapdefs.specs.declared.feature.FeatureFields.{FeatureFields}
use Rattle.mapdefs.specs.declared.label.LabelFields.{LabelFields}
use Rattle.mapdefs.specs.declared.label.Position.TheVariants.{Centre}
use Rattle.mapdefs.specs.declared.layer.Geometry.{Geometry}
use Rattle.mapdefs.specs.declared.layer.Geometry.TheVariants.{Polygon}
use Rattle.mapdefs.specs.declared.layer.LayerFields.{LayerFields}
use Rattle.mapdefs.specs.declared.map.MapFields.{MapFields}
use Rattle.mapdefs.specs.declared.style.StyleFields.{StyleFields}
use Rattle.mapdefs.specs.declared.symbol.Symbol.{Symbol}
use Rattle.mapwords.specs.declared.fault.Fault.{Fault}
use Rattle.mapdefs.specs.Outcome.{and_then}
use Rattle.mapwords.specs.declared.table.TextKeyword.{TextKeyword}
use Rattle.mapwords.specs.declared.table.TextKeyword.TheVariants.{Name, Font, ClassItem, LabelItem, Template, WmsTitle, OwsTitle, WmsOnlineResource, OwsOnlineResource}
use Rattle.mapwords.specs.declared.table.CountKeyword.TheVariants.{Width, Size, Tolerance, Priority, Buffer, MinDistance}
use Rattle.mapwords.specs.declared.table.FlagKeyword.TheVariants.{Partials, Force, Png, Mercator}
use Rattle.mapwords.specs.declared.table.ScaleKeyword.TheVariants.{Min, Max}
use Rattle.mapwords.specs.declared.table.ColourKeyword.{ColourKeyword}
use Rattle.mapwords.specs.declared.table.ColourKeyword.TheVariants.{Color, OutlineColor}
use Rattle.mapwords.specs.declared.value.Value.{Value}
use Rattle.maptree.specs.Outline.{outline_width_of}
use Rattle.maptree.specs.Smoothing.{factor_in}
use Rattle.maptree.specs.Symbol.{symbol_of}
use Rattle.mapvalues.specs.Values.{colour_in, count_in, extent_in, flag_in, items_in, last, position_in, rule_in, scale_in, text_in, words_in}
use Rattle.maptree.specs.declared.tree.ClassTree.{ClassTree}
use Rattle.maptree.specs.declared.tree.FeatureTree.{FeatureTree}
use Rattle.maptree.specs.declared.tree.LayerTree.{LayerTree}
use Rattle.maptree.specs.declared.tree.MapTree.{MapTree}
use Rattle.mapdefs.specs.declared.font.FontFields.{FontFields}
use Rattle.mapparse.specs.Fonts.{font_index, font_keys, fonts_of, is_unknown}
use Rattle.mapparse.specs.declared.files.FileBytes.{FileBytes}
use Rattle.mapparse.specs.declared.named_parts.NamedParts.{NamedParts}
use Rattle.mapparse.specs.Symbols.{symbol_index, symbols_of}
use Rattle.mapparse.specs.Tables.{column_x, column_y, tables_of, rows_of}
use Rattle.mapparse.specs.Uses.{files_fault}

-- the colour that is painted: that of a keyword, if it has one that isn't none
abbrev pub painted : ColourKeyword → List Value → Option Rgb
painted keyword given = option_flatten (last (colour_in keyword) given)

-- a style has its colours, its width and its size, one pixel each by default, and the symbol that it names
abbrev pub style_of : NamedParts → List Value → StyleFields
style_of named style = record {
  colour = painted Color style;
  outline = painted OutlineColor style;
  width = unwrap_or (last (count_in Width) style) 1;
  size = unwrap_or (last (count_in Size) style) 1;
  symbol = symbol_index named.symbols (symbol_of style);
}

-- a label has the font that it names, else that of labels that name none; by default it is black, its outline one pixel wide, has the priority 1,
-- stands centred on its anchor, keeps no distance, and is neither cut off nor placed over others
abbrev pub label_of : NamedParts → List Value → LabelFields
label_of named label = record {
  colour = unwrap_or (last (colour_in Color) label) (Some (record { red = 0; green = 0; blue = 0 }));
  outline = painted OutlineColor label;
  outline_width = unwrap_or (outline_width_of label) 1;
  font = font_index named.fonts (last (words_in Font) label);
  lacks_font = is_unknown named.fonts (last (words_in Font) label);
  priority = unwrap_or (last (count_in Priority) label) 1;
  position = unwrap_or (last position_in label) Centre;
  buffer = unwrap_or (last (count_in Buffer) label) 0;
  mindistance = unwrap_or (last (count_in MinDistance) label) 0;
  partials = unwrap_or (last (flag_in Partials) label) false;
  force = unwrap_or (last (flag_in Force) label) false;
}

-- a class has its rule, without which it takes each feature, its bounds on the scale, its styles and its label
abbrev pub class_of : NamedParts → ClassTree → ClassFields
class_of named class = record {
  rule = unwrap_or (last rule_in class.values) Always;
  min = last (scale_in Min) class.values;
  max = last (scale_in Max) class.values;
  styles = map (style_of named) class.styles;
  label = option_map (label_of named) class.label;
}

-- a byte is a semicolon
abbrev pub is_semicolon : ℕ → Bool
is_semicolon byte = byte == 59

-- values with empty ones for those that are missing
abbrev pub padded : ℕ → List (List ℕ) → List (List ℕ)
padded count values = values ++ replicate (count - length values) []

-- the values of so many items: the texts between semicolons in their order, of which further ones are dropped
abbrev pub values_of : ℕ → Option (List ℕ) → List (List ℕ)
values_of count None = padded count []
values_of count (Some text) = padded count (take count (slice_split is_semicolon text))

-- a feature has its parts, its text, and a value for each item of its layer
abbrev pub feature_of : ℕ → FeatureTree → FeatureFields
feature_of count feature = record { parts = feature.parts; text = feature.text; values = values_of count feature.items }

-- how far from the queried pixel a feature counts by default: one with an area is hit itself, another within 3
-- pixels
abbrev pub tolerance_of : Geometry → ℕ
tolerance_of Polygon = 0
tolerance_of _ = 3

-- the last text of a keyword, else that of another one
abbrev pub either_text : TextKeyword → TextKeyword → List Value → Option (List ℕ)
either_text first second given = option_or (last (words_in first) given) (last (words_in second) given)

-- the title of the service: `wms_title`, else `ows_title`, else the name of the map
abbrev pub service_title : List Value → Option (List ℕ)
service_title given = option_or (either_text WmsTitle OwsTitle given) (last (words_in Name) given)

-- the items of a layer are the columns of its table; without one they are those that it is given
abbrev pub named_items : Option (List (List ℕ)) → Option TableFields → List (List ℕ)
named_items given None = unwrap_or given []
named_items given (Some table) = table.columns

-- A layer of a name and a geometry, without items, classes and features. It is switched on, and with a TEMPLATE it can
-- be queried. It has its `wms_title` as its title, else its `ows_title`, else its name.
abbrev pub empty_layer : List ℕ → Geometry → List Value → LayerFields
empty_layer name geometry given = record {
  name = name;
  title = unwrap_or (either_text WmsTitle OwsTitle given) name;
  kind = geometry;
  on = true;
  classitem = last (words_in ClassItem) given;
  labelitem = last (words_in LabelItem) given;
  items = [];
  csv_x = column_x given;
  csv_y = column_y given;
  queryable = is_some (last (text_in Template) given);
  tolerance = unwrap_or (last (count_in Tolerance) given) (tolerance_of geometry);
  min = last (scale_in Min) given;
  max = last (scale_in Max) given;
  classes = [];
  features = [];
}

-- it has its items and its classes, and after the features that it is given the rows of its table
abbrev pub layer_of : NamedParts → LayerTree × Option TableFields → LayerFields
layer_of named (layer, table) = record (empty_layer layer.name.text layer.geometry layer.body.values) {
  items = named_items (last items_in layer.body.values) table;
  classes = map (class_of named) layer.body.classes;
  features = map (feature_of (length (named_items (last items_in layer.body.values) table))) layer.body.features ++ rows_of table;
}

-- the whole world: 180 degrees to the west and east, and 90 to the south and north
abbrev pub whole_world : Area
whole_world = record {
  minx = neg_ℤ (pos 180000000);
  miny = neg_ℤ (pos 90000000);
  maxx = pos 180000000;
  maxy = pos 90000000;
}

-- a map has the title and the address of its service, its extent, without which it shows the whole world, what it offers
-- beside what each map does, how many times as fine the pictures are that are averaged, its fonts, its symbols and its layers
abbrev pub map_with : List Symbol → List (Option TableFields) → List FontFields → MapTree → MapFields
map_with symbols tables fonts tree = record {
  title = unwrap_or (service_title tree.values) (codes "WMS");
  url = unwrap_or (either_text WmsOnlineResource OwsOnlineResource tree.values) (codes "http://localhost/wms?");
  extent = unwrap_or (last extent_in tree.values) whole_world;
  png = unwrap_or (last (flag_in Png) tree.values) false;
  mercator = unwrap_or (last (flag_in Mercator) tree.values) false;
  smoothing = factor_in tree.values;
  fonts = fonts;
  symbols = symbols;
  layers = map (layer_of (record { symbols = symbols; fonts = font_keys tree.files })) (zip tree.layers tables);
}

-- the map that a mapfile describes, where all of its files are what it uses them as
abbrev pub made_of : List FileBytes → MapTree → Result MapFields Fault
made_of files tree =
    and_then (symbols_of files tree.symbols) (λ symbols.
    and_then (tables_of files tree.layers) (λ tables.
    and_then (fonts_of files tree) (λ fonts. Ok (map_with symbols tables fonts tree))))

-- where one of them isn't, the fault that comes first is reported
abbrev pub reported_by : Option Fault → Result MapFields Fault → Result MapFields Fault
reported_by first (Ok m) = Ok m
reported_by first (Err fault) = Err (unwrap_or first fault)

-- the map that a mapfile describes with its files, or the fault of the first used of the files that have one
abbrev pub map_of : List FileBytes → MapTree → Result MapFields Fault
map_of files tree = reported_by (files_fault files tree) (made_of files tree)
