-- The keywords of each block, and the bounds of counts (docs/MAPFILE.md, "Blocks and words" and "Numbers").
use Rattle.std.specs.Prelude.{ℕ, Bool, true, Option, None, Some}
use Rattle.mapdefs.specs.declared.limits.TheConstants.{MAX_LINE_WIDTH, MAX_SQUARE, MAX_TOLERANCE, MAX_PRIORITY, MAX_BUFFER, MAX_DISTANCE, MAX_OUTLINE_WIDTH}
use Rattle.mapwords.specs.declared.role.Block.{Block}
use Rattle.mapwords.specs.declared.role.Block.TheVariants as block
use Rattle.mapwords.specs.declared.role.Expected.TheVariants as expected
use Rattle.mapwords.specs.declared.role.Role.{Role}
use Rattle.mapwords.specs.declared.role.Role.TheVariants.{Closes, Opens, Takes}
use Rattle.mapwords.specs.declared.keyword.Keyword.{Keyword}
use Rattle.mapwords.specs.declared.keyword.Keyword.TheVariants as keyword
use Rattle.mapwords.specs.declared.table.TextKeyword.{TextKeyword}
use Rattle.mapwords.specs.declared.table.TextKeyword.TheVariants as text
use Rattle.mapwords.specs.declared.table.CountKeyword.{CountKeyword}
use Rattle.mapwords.specs.declared.table.CountKeyword.TheVariants as count
use Rattle.mapwords.specs.declared.table.FlagKeyword.{FlagKeyword}
use Rattle.mapwords.specs.declared.table.FlagKeyword.TheVariants as flag
use Rattle.mapwords.specs.declared.table.ScaleKeyword.{ScaleKeyword}
use Rattle.mapwords.specs.declared.table.ScaleKeyword.TheVariants as scale
use Rattle.mapwords.specs.declared.table.ColourKeyword.{ColourKeyword}
use Rattle.mapwords.specs.declared.table.ColourKeyword.TheVariants as colour
use Rattle.mapwords.specs.declared.table.OnlyWord.TheVariants as only

-- a number for each keyword that takes a text
abbrev pub text_number : TextKeyword → ℕ
text_number text.Name = 0
text_number text.ClassItem = 1
text_number text.LabelItem = 2
text_number text.Template = 3
text_number text.Data = 4
text_number text.CsvX = 5
text_number text.CsvY = 6
text_number text.WmsTitle = 7
text_number text.OwsTitle = 8
text_number text.WmsOnlineResource = 9
text_number text.OwsOnlineResource = 10
text_number text.Image = 11
text_number text.Symbol = 12
text_number text.Font = 13
text_number text.Text = 14
text_number text.Items = 15
text_number text.OutlineWidth = 16

-- for each that takes a count
abbrev pub count_number : CountKeyword → ℕ
count_number count.Width = 0
count_number count.Size = 1
count_number count.Tolerance = 2
count_number count.Priority = 3
count_number count.Buffer = 4
count_number count.MinDistance = 5
count_number count.OutlineWidth = 6

-- for each that takes TRUE or FALSE, and for what a CONFIG offers
abbrev pub flag_number : FlagKeyword → ℕ
flag_number flag.Partials = 0
flag_number flag.Force = 1
flag_number flag.Png = 2
flag_number flag.Mercator = 3

-- for each that takes a scale denominator
abbrev pub scale_number : ScaleKeyword → ℕ
scale_number scale.Min = 0
scale_number scale.Max = 1

-- and for each that takes a colour
abbrev pub colour_number : ColourKeyword → ℕ
colour_number colour.Color = 0
colour_number colour.OutlineColor = 1
colour_number colour.ImageColor = 2

-- the least count that a keyword takes
abbrev pub least_of : CountKeyword → ℕ
least_of count.Width = 1
least_of count.Size = 1
least_of count.Tolerance = 0
least_of count.Priority = 1
least_of count.Buffer = 0
least_of count.MinDistance = 0
least_of count.OutlineWidth = 1

-- and the greatest
abbrev pub most_of : CountKeyword → ℕ
most_of count.Width = MAX_LINE_WIDTH
most_of count.Size = MAX_SQUARE
most_of count.Tolerance = MAX_TOLERANCE
most_of count.Priority = MAX_PRIORITY
most_of count.Buffer = MAX_BUFFER
most_of count.MinDistance = MAX_DISTANCE
most_of count.OutlineWidth = MAX_OUTLINE_WIDTH

-- the keywords of MAP
abbrev pub map_role : Keyword → Option Role
map_role keyword.Layer = Some (Opens block.Layer)
map_role keyword.Web = Some (Opens block.Web)
map_role keyword.Symbol = Some (Opens block.Symbol)
map_role keyword.Name = Some (Takes (expected.Text text.Name))
map_role keyword.Extent = Some (Takes expected.West)
map_role keyword.Config = Some (Takes expected.ConfigKey)
map_role keyword.Angle = Some (Takes (expected.Unused 0))
map_role keyword.Debug = Some (Takes (expected.Unused 0))
map_role keyword.FontSet = Some (Takes (expected.Unused 0))
map_role keyword.ImageType = Some (Takes (expected.Unused 0))
map_role keyword.MaxSize = Some (Takes (expected.Unused 0))
map_role keyword.Resolution = Some (Takes (expected.Unused 0))
map_role keyword.ShapePath = Some (Takes (expected.Unused 0))
map_role keyword.Status = Some (Takes (expected.Unused 0))
map_role keyword.Units = Some (Takes (expected.Unused 0))
map_role keyword.Size = Some (Takes (expected.Unused 1))
map_role keyword.ImageColor = Some (Takes (expected.Colour colour.ImageColor))
map_role keyword.Legend = Some (Opens block.Skipped)
map_role keyword.OutputFormat = Some (Opens block.Skipped)
map_role keyword.QueryMap = Some (Opens block.Skipped)
map_role keyword.Reference = Some (Opens block.Skipped)
map_role keyword.ScaleBar = Some (Opens block.Skipped)
map_role keyword.Projection = Some (Opens block.Projection)
map_role keyword.End = Some Closes
map_role _ = None

-- the keywords of WEB
abbrev pub web_role : Keyword → Option Role
web_role keyword.Metadata = Some (Opens block.WebMetadata)
web_role keyword.Validation = Some (Opens block.Validation)
web_role keyword.Empty = Some (Takes (expected.Unused 0))
web_role keyword.Error = Some (Takes (expected.Unused 0))
web_role keyword.Footer = Some (Takes (expected.Unused 0))
web_role keyword.Header = Some (Takes (expected.Unused 0))
web_role keyword.ImagePath = Some (Takes (expected.Unused 0))
web_role keyword.ImageUrl = Some (Takes (expected.Unused 0))
web_role keyword.Log = Some (Takes (expected.Unused 0))
web_role keyword.MaxScaleDenom = Some (Takes (expected.Unused 0))
web_role keyword.MinScaleDenom = Some (Takes (expected.Unused 0))
web_role keyword.Template = Some (Takes (expected.Unused 0))
web_role keyword.End = Some Closes
web_role _ = None

-- the keywords of SYMBOL
abbrev pub symbol_role : Keyword → Option Role
symbol_role keyword.Name = Some (Takes (expected.Text text.Name))
symbol_role keyword.GeometryType = Some (Takes expected.Pixmap)
symbol_role keyword.Image = Some (Takes (expected.Text text.Image))
symbol_role keyword.Transparent = Some (Takes (expected.Unused 0))
symbol_role keyword.AnchorPoint = Some (Takes (expected.Unused 1))
symbol_role keyword.End = Some Closes
symbol_role _ = None

-- in a smoothed map it may be a disc, too
abbrev pub smooth_symbol_role : Keyword → Option Role
smooth_symbol_role keyword.GeometryType = Some (Takes expected.SymbolType)
smooth_symbol_role keyword.Points = Some (Takes (expected.Radii 2))
smooth_symbol_role keyword.Filled = Some (Takes expected.Filled)
smooth_symbol_role keyword = symbol_role keyword

-- the keywords of LAYER that are read without effect
abbrev pub unused_layer_role : Keyword → Option Role
unused_layer_role keyword.Debug = Some (Takes (expected.Unused 0))
unused_layer_role keyword.Dump = Some (Takes (expected.Unused 0))
unused_layer_role keyword.Footer = Some (Takes (expected.Unused 0))
unused_layer_role keyword.Group = Some (Takes (expected.Unused 0))
unused_layer_role keyword.Header = Some (Takes (expected.Unused 0))
unused_layer_role keyword.LabelMaxScaleDenom = Some (Takes (expected.Unused 0))
unused_layer_role keyword.LabelMinScaleDenom = Some (Takes (expected.Unused 0))
unused_layer_role keyword.Status = Some (Takes (expected.Unused 0))
unused_layer_role keyword.Units = Some (Takes (expected.Unused 0))
unused_layer_role keyword.Extent = Some (Takes (expected.Unused 3))
unused_layer_role keyword.LabelCache = Some (Takes (expected.Only only.On))
unused_layer_role keyword.ToleranceUnits = Some (Takes (expected.Only only.Pixels))
unused_layer_role _ = None

-- the keywords of LAYER
abbrev pub layer_role : Keyword → Option Role
layer_role keyword.Name = Some (Takes (expected.Text text.Name))
layer_role keyword.GeometryType = Some (Takes expected.Geometry)
layer_role keyword.ClassItem = Some (Takes (expected.Text text.ClassItem))
layer_role keyword.LabelItem = Some (Takes (expected.Text text.LabelItem))
layer_role keyword.Data = Some (Takes expected.Table)
layer_role keyword.Template = Some (Takes (expected.Text text.Template))
layer_role keyword.Tolerance = Some (Takes (expected.Count count.Tolerance))
layer_role keyword.MinScaleDenom = Some (Takes (expected.Scale scale.Min))
layer_role keyword.MaxScaleDenom = Some (Takes (expected.Scale scale.Max))
layer_role keyword.Processing = Some (Takes expected.Setting)
layer_role keyword.Metadata = Some (Opens block.LayerMetadata)
layer_role keyword.Class = Some (Opens block.Class)
layer_role keyword.Feature = Some (Opens block.Feature)
layer_role keyword.Projection = Some (Opens block.Projection)
layer_role keyword.Validation = Some (Opens block.Validation)
layer_role keyword.End = Some Closes
layer_role keyword = unused_layer_role keyword

-- the keywords of CLASS
abbrev pub class_role : Keyword → Option Role
class_role keyword.Style = Some (Opens block.Style)
class_role keyword.Label = Some (Opens block.Label)
class_role keyword.Expression = Some (Takes expected.Rule)
class_role keyword.MinScaleDenom = Some (Takes (expected.Scale scale.Min))
class_role keyword.MaxScaleDenom = Some (Takes (expected.Scale scale.Max))
class_role keyword.Group = Some (Takes (expected.Unused 0))
class_role keyword.Name = Some (Takes (expected.Unused 0))
class_role keyword.Status = Some (Takes (expected.Unused 0))
class_role keyword.Template = Some (Takes (expected.Unused 0))
class_role keyword.Title = Some (Takes (expected.Unused 0))
class_role keyword.End = Some Closes
class_role _ = None

-- the keywords of STYLE
abbrev pub style_role : Keyword → Option Role
style_role keyword.Color = Some (Takes (expected.Colour colour.Color))
style_role keyword.OutlineColor = Some (Takes (expected.Colour colour.OutlineColor))
style_role keyword.Width = Some (Takes (expected.Count count.Width))
style_role keyword.Size = Some (Takes (expected.Count count.Size))
style_role keyword.Symbol = Some (Takes (expected.Text text.Symbol))
style_role keyword.Antialias = Some (Takes (expected.Unused 0))
style_role keyword.MaxSize = Some (Takes (expected.Unused 0))
style_role keyword.MaxWidth = Some (Takes (expected.Unused 0))
style_role keyword.MinSize = Some (Takes (expected.Unused 0))
style_role keyword.MinWidth = Some (Takes (expected.Unused 0))
style_role keyword.End = Some Closes
style_role _ = None

-- the keywords of LABEL
abbrev pub label_role : Keyword → Option Role
label_role keyword.Color = Some (Takes (expected.Colour colour.Color))
label_role keyword.OutlineColor = Some (Takes (expected.Colour colour.OutlineColor))
label_role keyword.Priority = Some (Takes (expected.Count count.Priority))
label_role keyword.Position = Some (Takes expected.Position)
label_role keyword.Buffer = Some (Takes (expected.Count count.Buffer))
label_role keyword.MinDistance = Some (Takes (expected.Count count.MinDistance))
label_role keyword.Partials = Some (Takes (expected.Flag flag.Partials))
label_role keyword.Force = Some (Takes (expected.Flag flag.Force))
label_role keyword.Antialias = Some (Takes (expected.Unused 0))
label_role keyword.Encoding = Some (Takes (expected.Unused 0))
label_role keyword.Font = Some (Takes (expected.Text text.Font))
label_role keyword.GeometryType = Some (Takes (expected.Unused 0))
label_role keyword.MaxSize = Some (Takes (expected.Unused 0))
label_role keyword.MinFeatureSize = Some (Takes (expected.Unused 0))
label_role keyword.MinSize = Some (Takes (expected.Unused 0))
label_role keyword.OutlineWidth = Some (Takes (expected.Text text.OutlineWidth))
label_role keyword.RepeatDistance = Some (Takes (expected.Unused 0))
label_role keyword.Size = Some (Takes (expected.Unused 0))
label_role keyword.Offset = Some (Takes (expected.Unused 1))
label_role keyword.Style = Some (Opens block.Skipped)
label_role keyword.End = Some Closes
label_role _ = None

-- the keywords of FEATURE
abbrev pub feature_role : Keyword → Option Role
feature_role keyword.Points = Some (Opens block.Points)
feature_role keyword.Text = Some (Takes (expected.Text text.Text))
feature_role keyword.Items = Some (Takes (expected.Text text.Items))
feature_role keyword.End = Some Closes
feature_role _ = None

-- what opens blocks inside a block that is skipped
abbrev pub skipped_role : Keyword → Option Role
skipped_role keyword.Label = Some (Opens block.SkippedLabel)
skipped_role keyword.Metadata = Some (Opens block.Skipped)
skipped_role keyword.Validation = Some (Opens block.Projection)
skipped_role keyword.End = Some Closes
skipped_role _ = None

-- what opens blocks inside a LABEL that is skipped
abbrev pub skipped_label_role : Keyword → Option Role
skipped_label_role keyword.Label = Some (Opens block.SkippedLabel)
skipped_label_role keyword.Metadata = Some (Opens block.Skipped)
skipped_label_role keyword.Style = Some (Opens block.Skipped)
skipped_label_role keyword.Validation = Some (Opens block.Projection)
skipped_label_role keyword.End = Some Closes
skipped_label_role _ = None

-- what closes a block without keywords
abbrev pub end_role : Keyword → Option Role
end_role keyword.End = Some Closes
end_role _ = None

-- what a keyword does in a block, if it is a keyword of the block
abbrev pub role_of : Block → Keyword → Option Role
role_of block.Map k = map_role k
role_of block.Web k = web_role k
role_of block.Symbol k = symbol_role k
role_of block.Layer k = layer_role k
role_of block.Class k = class_role k
role_of block.Style k = style_role k
role_of block.Label k = label_role k
role_of block.Feature k = feature_role k
role_of block.Skipped k = skipped_role k
role_of block.SkippedLabel k = skipped_label_role k
role_of _ k = end_role k

-- the same in a map that is smoothed, or isn't
abbrev pub role_in : Block → Bool → Keyword → Option Role
role_in block.Symbol true k = smooth_symbol_role k
role_in b smooth k = role_of b k
