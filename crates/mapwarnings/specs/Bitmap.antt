-- Bitmaps of a map that its smoothed pictures show too small (docs/MAPFILE.md, "Warnings").
use Rattle.std.specs.Prelude.{ℕ, ◌+◌, ◌*◌, ◌&&◌, nat_lt, max, Bool, true, false, List, [], ◌∷◌, ◌++◌}
use Rattle.mapdefs.specs.declared.font.FontFields.{FontFields}
use Rattle.mapdefs.specs.declared.map.MapFields.{MapFields}
use Rattle.mapdefs.specs.declared.symbol.Symbol.{Symbol}
use Rattle.mapdefs.specs.declared.symbol.SymbolShape.{SymbolShape}
use Rattle.mapdefs.specs.declared.symbol.SymbolShape.TheVariants as symbol
use Rattle.mapwarnings.specs.declared.bitmap.Bitmap.{Bitmap}
use Rattle.mapwarnings.specs.declared.bitmap.Bitmap.TheVariants as bitmap
use Rattle.mapwarnings.specs.declared.bitmap.SmallBitmap.{SmallBitmap}
use Rattle.mapwarnings.specs.declared.bitmap.TheConstants.{LEAST_HEIGHT, LEAST_SIDE}

-- the least pixels of the picture that a bitmap is to be shown as: letters lower can't be read, and a shorter symbol is a speck
abbrev pub least_of : Bitmap → ℕ
least_of bitmap.OnlyFont = LEAST_HEIGHT
least_of (bitmap.Font number) = LEAST_HEIGHT
least_of (bitmap.Symbol number) = LEAST_SIDE

-- a map of a factor shows a bitmap of so many pixels as fewer than that; one of factor 1 shows each as it is
abbrev pub is_small : ℕ → Bitmap → ℕ → Bool
is_small factor bitmap size = nat_lt 1 factor && nat_lt size (factor * least_of bitmap)

-- a bitmap, where it is shown too small
abbrev pub if_small : Bool → SmallBitmap → List SmallBitmap
if_small true small = small ∷ []
if_small false small = []

abbrev pub small_bitmap : ℕ → Bitmap → ℕ → List SmallBitmap
small_bitmap factor bitmap size = if_small (is_small factor bitmap size) (record { bitmap = bitmap; size = size; factor = factor })

-- some fonts by their heights, of which the first has this number
abbrev pub numbered_fonts : ℕ → ℕ → List FontFields → List SmallBitmap
numbered_fonts factor number [] = []
numbered_fonts factor number (font ∷ fonts) = small_bitmap factor (bitmap.Font number) font.bounds.height ++ numbered_fonts factor (number + 1) fonts

-- the fonts of a map: the only one has no number
abbrev pub small_fonts : ℕ → List FontFields → List SmallBitmap
small_fonts factor (font ∷ []) = small_bitmap factor bitmap.OnlyFont font.bounds.height
small_fonts factor fonts = numbered_fonts factor 1 fonts

-- a symbol of a number, by the longer side of its pixmap; a disc is no bitmap
abbrev pub small_symbol : ℕ → ℕ → SymbolShape → List SmallBitmap
small_symbol factor number symbol.Disc = []
small_symbol factor number (symbol.Pixmap pixmap) = small_bitmap factor (bitmap.Symbol number) (max pixmap.width pixmap.height)

-- some symbols, of which the first has this number
abbrev pub small_symbols : ℕ → ℕ → List Symbol → List SmallBitmap
small_symbols factor number [] = []
small_symbols factor number (symbol ∷ symbols) = small_symbol factor number symbol.shape ++ small_symbols factor (number + 1) symbols

-- all of a map: its fonts, and then its symbols in the order of the mapfile, numbered from 1
abbrev pub small_bitmaps : MapFields → List SmallBitmap
small_bitmaps map = small_fonts map.smoothing map.fonts ++ small_symbols map.smoothing 1 map.symbols
