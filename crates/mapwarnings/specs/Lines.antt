-- The lines of warnings (docs/MAPFILE.md, "Warnings").
use Rattle.std.specs.Prelude.{ℕ, ◌*◌, List, ◌++◌, Option, None, Some, codes}
use Rattle.std.specs.Fmt.{decimal}
use Rattle.std.specs.List.{flat_map}
use Rattle.mapdefs.specs.declared.map.MapFields.{MapFields}
use Rattle.mapwarnings.specs.Bitmap.{least_of, small_bitmaps}
use Rattle.mapwarnings.specs.Warning.{warnings}
use Rattle.mapwarnings.specs.declared.bitmap.Bitmap.{Bitmap}
use Rattle.mapwarnings.specs.declared.bitmap.Bitmap.TheVariants as bitmap
use Rattle.mapwarnings.specs.declared.bitmap.SmallBitmap.{SmallBitmap}
use Rattle.mapwarnings.specs.declared.warning.Concern.{Concern}
use Rattle.mapwarnings.specs.declared.warning.Concern.TheVariants as concern
use Rattle.mapwarnings.specs.declared.warning.Warning.{Warning}

-- what a warning is about
unfoldable pub subject_of : Option ℕ → List ℕ
subject_of None = codes "the service"
subject_of (Some number) = codes "LAYER " ++ decimal number

-- the message on what isn't as it should be there
unfoldable pub message_of : Concern → List ℕ
message_of concern.NoAddress = codes " has no wms_onlineresource, and http://localhost/wms? has no port"
message_of concern.EmptyName = codes " has an empty NAME, so that LAYERS can't ask for it"
message_of concern.CommaInName = codes " has a NAME with a comma, so that LAYERS can't ask for it"
message_of concern.ForbiddenInName = codes " has a NAME with a character that XML forbids"
message_of concern.ForbiddenInTitle = codes " has a title with a character that XML forbids"
message_of concern.ForbiddenInAddress = codes " has an address with a character that XML forbids"
message_of concern.BeyondDegrees = codes " has an EXTENT beyond 180 degrees of longitude or 90 of latitude"
message_of concern.UnknownLabelItem = codes " has a LABELITEM that is none of its items"
message_of concern.UnknownClassItem = codes " has a CLASSITEM that is none of its items"
message_of concern.UnknownItem = codes " has an EXPRESSION on an item that is none of its items"
message_of concern.NoFont = codes " has a LABEL, and the map has no LABELFONT"
message_of concern.UnknownFont = codes " has a FONT that is none of the map's fonts"
message_of concern.NoClass = codes " has features and no CLASS"
message_of concern.BareClass = codes " has a CLASS without STYLE and LABEL"

-- the bytes between the name of a mapfile and a warning
unfoldable pub marked : List ℕ
marked = codes ": warning: "

-- the line of a warning, which begins with the name of the mapfile
unfoldable pub warning_line : List ℕ → Warning → List ℕ
warning_line name w = name ++ (marked ++ (subject_of w.layer ++ (message_of w.concern ++ codes "\n")))

-- the keyword of a bitmap, and its number where there are several
unfoldable pub keyword_of : Bitmap → List ℕ
keyword_of bitmap.OnlyFont = codes "LABELFONT"
keyword_of (bitmap.Font number) = codes "LABELFONT " ++ decimal number
keyword_of (bitmap.Symbol number) = codes "SYMBOL " ++ decimal number

-- which of its sides is measured
unfoldable pub side_of : Bitmap → List ℕ
side_of bitmap.OnlyFont = codes " pixels high"
side_of (bitmap.Font number) = codes " pixels high"
side_of (bitmap.Symbol number) = codes " pixels long"

-- how large a bitmap is
unfoldable pub found_size : SmallBitmap → List ℕ
found_size small = codes " is " ++ (decimal small.size ++ side_of small.bitmap)

-- the words before the factor of the map, before the size below which a bitmap is shown, and before the size that would do
unfoldable pub factor_words : List ℕ
factor_words = codes ", which WMS_SMOOTHING "

unfoldable pub least_words : List ℕ
least_words = codes " shows as less than "

unfoldable pub wanted_words : List ℕ
wanted_words = codes ": bring one of "

-- what a map makes of a bitmap
abbrev pub shown_size : SmallBitmap → List ℕ
shown_size small = factor_words ++ (decimal small.factor ++ (least_words ++ decimal (least_of small.bitmap)))

-- the size that would do
unfoldable pub wanted_size : SmallBitmap → List ℕ
wanted_size small = wanted_words ++ (decimal (small.factor * least_of small.bitmap) ++ codes " or more")

-- the message on a bitmap that is shown too small
abbrev pub size_message : SmallBitmap → List ℕ
size_message small = found_size small ++ (shown_size small ++ wanted_size small)

-- the line of a bitmap that is shown too small, which begins with the name of the mapfile
unfoldable pub bitmap_line : List ℕ → SmallBitmap → List ℕ
bitmap_line name small = name ++ (marked ++ (keyword_of small.bitmap ++ (size_message small ++ codes "\n")))

-- the lines of all warnings on a map: on the service, on its layers, and on its bitmaps
abbrev pub warning_lines : List ℕ → MapFields → List ℕ
warning_lines name map = flat_map (warning_line name) (warnings map) ++ flat_map (bitmap_line name) (small_bitmaps map)
