-- The values of a SYMBOL (docs/MAPFILE.md, "Symbols").
use Rattle.std.specs.Prelude.{ℕ, zero, suc, ◌==◌, Bool, true, false, if◌then◌else◌, List, codes, ℤ, pos, negsuc, Option, None, Some}
use Rattle.std.specs.Str.{str_eq_ignore_ascii_case}
use Rattle.maplex.specs.Token.{TokenValue}
use Rattle.mapwords.specs.declared.role.Expected.{Expected}
use Rattle.mapwords.specs.declared.role.Expected.TheVariants as expected
use Rattle.mapwords.specs.declared.symbol.SymbolType.TheVariants.{Pixmap, Ellipse}
use Rattle.mapwords.specs.declared.value.Value.TheVariants as value
use Rattle.mapwords.specs.declared.value.ValueStep.{ValueStep}
use Rattle.mapwords.specs.declared.value.ValueStep.TheVariants.{More, Whole}
use Rattle.mapwords.specs.Count.{number_in}
use Rattle.mapwords.specs.Keyword.{is_end}

-- a symbol is a pixmap; the word may be in letters of either case
abbrev pub pixmap_step : List ℕ → Option ValueStep
pixmap_step text = if str_eq_ignore_ascii_case text (codes "PIXMAP") then Some (Whole (value.SymbolType Pixmap)) else None

-- in a smoothed map it may be a disc, too
abbrev pub type_step : List ℕ → Option ValueStep
type_step text = if str_eq_ignore_ascii_case text (codes "ELLIPSE") then Some (Whole (value.SymbolType Ellipse)) else pixmap_step text

-- a number, in millionths, is 1
abbrev pub is_one : Option ℤ → Bool
is_one (Some (pos n)) = n == 1000000
is_one _ = false

-- a disc has the radii 1 and 1, and END comes after them
abbrev pub radii_step : ℕ → TokenValue → Option ValueStep
radii_step zero t = if is_end t then Some (Whole value.Radii) else None
radii_step (suc fewer) t = if is_one (number_in t.text) then Some (More (expected.Radii fewer)) else None

-- and it is filled
abbrev pub filled_step : List ℕ → Option ValueStep
filled_step text = if str_eq_ignore_ascii_case text (codes "TRUE") then Some (Whole value.Filled) else None

-- END stands where a value should; after the radii of a disc it should stand there itself
abbrev pub is_early_end : Expected → TokenValue → Bool
is_early_end (expected.Radii zero) t = false
is_early_end _ t = is_end t
