-- Keywords, and how they are written (docs/MAPFILE.md, "Blocks and words").
use Rattle.std.specs.Prelude.{ℕ, Bool, false, List, [], ◌∷◌, Option, None, codes, find}
use Rattle.std.specs.Borrow.{Bor}
use Rattle.std.specs.Str.{str_eq_ignore_ascii_case}
use Rattle.maplex.specs.declared.token.Shape.{Shape}
use Rattle.maplex.specs.declared.token.Shape.TheVariants.{Word}
use Rattle.maplex.specs.Token.{TokenValue}
use Rattle.mapwords.specs.declared.keyword.Keyword.{Keyword}
use Rattle.mapwords.specs.declared.keyword.Keyword.TheVariants.{End, Points, Feature, Text, Items, Layer, Class, Style, Label, Name, GeometryType, Expression, Color, OutlineColor, Width, Size, Symbol, Priority, Position, AnchorPoint, Angle, Antialias, Buffer, ClassItem, Config, Data, Debug, Dump, Empty, Encoding, Error, Extent, Filled, Font, FontSet, Footer, Force, Group, Header, Image, ImageColor, ImagePath, ImageType, ImageUrl, LabelCache, LabelItem, LabelMaxScaleDenom, LabelMinScaleDenom, Legend, Log, Map, MaxScaleDenom, MaxSize, MaxWidth, Metadata, MinDistance, MinFeatureSize, MinScaleDenom, MinSize, MinWidth, Offset, OutlineWidth, OutputFormat, Partials, Processing, Projection, QueryMap, Reference, RepeatDistance, Resolution, ScaleBar, ShapePath, Status, Template, Title, Tolerance, ToleranceUnits, Transparent, Units, Validation, Web}

-- how a keyword is written
unfoldable pub spelling : Keyword → List ℕ
spelling End = codes "END"
spelling Points = codes "POINTS"
spelling Feature = codes "FEATURE"
spelling Text = codes "TEXT"
spelling Items = codes "ITEMS"
spelling Layer = codes "LAYER"
spelling Class = codes "CLASS"
spelling Style = codes "STYLE"
spelling Label = codes "LABEL"
spelling Name = codes "NAME"
spelling GeometryType = codes "TYPE"
spelling Expression = codes "EXPRESSION"
spelling Color = codes "COLOR"
spelling OutlineColor = codes "OUTLINECOLOR"
spelling Width = codes "WIDTH"
spelling Size = codes "SIZE"
spelling Symbol = codes "SYMBOL"
spelling Priority = codes "PRIORITY"
spelling Position = codes "POSITION"
spelling AnchorPoint = codes "ANCHORPOINT"
spelling Angle = codes "ANGLE"
spelling Antialias = codes "ANTIALIAS"
spelling Buffer = codes "BUFFER"
spelling ClassItem = codes "CLASSITEM"
spelling Config = codes "CONFIG"
spelling Data = codes "DATA"
spelling Debug = codes "DEBUG"
spelling Dump = codes "DUMP"
spelling Empty = codes "EMPTY"
spelling Encoding = codes "ENCODING"
spelling Error = codes "ERROR"
spelling Extent = codes "EXTENT"
spelling Filled = codes "FILLED"
spelling Font = codes "FONT"
spelling FontSet = codes "FONTSET"
spelling Footer = codes "FOOTER"
spelling Force = codes "FORCE"
spelling Group = codes "GROUP"
spelling Header = codes "HEADER"
spelling Image = codes "IMAGE"
spelling ImageColor = codes "IMAGECOLOR"
spelling ImagePath = codes "IMAGEPATH"
spelling ImageType = codes "IMAGETYPE"
spelling ImageUrl = codes "IMAGEURL"
spelling LabelCache = codes "LABELCACHE"
spelling LabelItem = codes "LABELITEM"
spelling LabelMaxScaleDenom = codes "LABELMAXSCALEDENOM"
spelling LabelMinScaleDenom = codes "LABELMINSCALEDENOM"
spelling Legend = codes "LEGEND"
spelling Log = codes "LOG"
spelling Map = codes "MAP"
spelling MaxScaleDenom = codes "MAXSCALEDENOM"
spelling MaxSize = codes "MAXSIZE"
spelling MaxWidth = codes "MAXWIDTH"
spelling Metadata = codes "METADATA"
spelling MinDistance = codes "MINDISTANCE"
spelling MinFeatureSize = codes "MINFEATURESIZE"
spelling MinScaleDenom = codes "MINSCALEDENOM"
spelling MinSize = codes "MINSIZE"
spelling MinWidth = codes "MINWIDTH"
spelling Offset = codes "OFFSET"
spelling OutlineWidth = codes "OUTLINEWIDTH"
spelling OutputFormat = codes "OUTPUTFORMAT"
spelling Partials = codes "PARTIALS"
spelling Processing = codes "PROCESSING"
spelling Projection = codes "PROJECTION"
spelling QueryMap = codes "QUERYMAP"
spelling Reference = codes "REFERENCE"
spelling RepeatDistance = codes "REPEATDISTANCE"
spelling Resolution = codes "RESOLUTION"
spelling ScaleBar = codes "SCALEBAR"
spelling ShapePath = codes "SHAPEPATH"
spelling Status = codes "STATUS"
spelling Template = codes "TEMPLATE"
spelling Title = codes "TITLE"
spelling Tolerance = codes "TOLERANCE"
spelling ToleranceUnits = codes "TOLERANCEUNITS"
spelling Transparent = codes "TRANSPARENT"
spelling Units = codes "UNITS"
spelling Validation = codes "VALIDATION"
spelling Web = codes "WEB"

-- all keywords
abbrev pub keywords : List Keyword
keywords =
    End ∷ Points ∷ Feature ∷ Text ∷ Items ∷ Layer ∷ Class ∷ Style ∷ Label ∷ Name ∷ GeometryType ∷ Expression ∷ Color ∷
    OutlineColor ∷ Width ∷ Size ∷ Symbol ∷ Priority ∷ Position ∷ AnchorPoint ∷ Angle ∷ Antialias ∷ Buffer ∷ ClassItem ∷
    Config ∷ Data ∷ Debug ∷ Dump ∷ Empty ∷ Encoding ∷ Error ∷ Extent ∷ Filled ∷ Font ∷ FontSet ∷ Footer ∷ Force ∷ Group ∷ Header
    ∷ Image ∷ ImageColor ∷ ImagePath ∷ ImageType ∷ ImageUrl ∷ LabelCache ∷ LabelItem ∷ LabelMaxScaleDenom ∷
    LabelMinScaleDenom ∷ Legend ∷ Log ∷ Map ∷ MaxScaleDenom ∷ MaxSize ∷ MaxWidth ∷ Metadata ∷ MinDistance ∷
    MinFeatureSize ∷ MinScaleDenom ∷ MinSize ∷ MinWidth ∷ Offset ∷ OutlineWidth ∷ OutputFormat ∷ Partials ∷ Processing ∷
    Projection ∷ QueryMap ∷ Reference ∷ RepeatDistance ∷ Resolution ∷ ScaleBar ∷ ShapePath ∷ Status ∷ Template ∷ Title ∷
    Tolerance ∷ ToleranceUnits ∷ Transparent ∷ Units ∷ Validation ∷ Web ∷ []

-- a keyword with its spelling
abbrev pub spelt : Keyword → Keyword × List ℕ
spelt keyword = (keyword, spelling keyword)

-- a keyword and a borrowed text, as the keyword and the text
abbrev pub plain : Keyword × Bor (List ℕ) → Keyword × List ℕ
plain pair = (pair.0, pair.1.now)

-- a text is a keyword, in letters of either case
abbrev pub is_spelt : List ℕ → Keyword → Bool
is_spelt text keyword = str_eq_ignore_ascii_case text (spelling keyword)

-- the keyword that a text is
abbrev pub keyword_of : List ℕ → Option Keyword
keyword_of text = find (is_spelt text) keywords

-- only a bare word is a keyword
abbrev pub keyword_in : Shape → List ℕ → Option Keyword
keyword_in Word text = keyword_of text
keyword_in _ text = None

-- the keyword that a token is
abbrev pub keyword_at : TokenValue → Option Keyword
keyword_at t = keyword_in t.shape t.text

-- only a bare word is this keyword
abbrev pub is_in : Keyword → Shape → List ℕ → Bool
is_in keyword Word text = is_spelt text keyword
is_in keyword _ text = false

-- the token is this keyword
abbrev pub is_at : Keyword → TokenValue → Bool
is_at keyword t = is_in keyword t.shape t.text

-- the token is the bare word END
abbrev pub is_end : TokenValue → Bool
is_end t = is_at End t
