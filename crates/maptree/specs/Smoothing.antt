-- How smooth the pictures of a map are, and where it may have discs (docs/MAPFILE.md, "Smoothing" and "Symbols").
use Rattle.std.specs.Prelude.{ℕ, Bool, not, nat_lt, if◌then◌else◌, List, Option, None, Some, option_and_then, is_some}
use Rattle.std.specs.List.{list_any}
use Rattle.mapwords.specs.declared.fault.Fault.{Fault}
use Rattle.mapwords.specs.declared.fault.ParseKind.TheVariants.{WrongValue}
use Rattle.mapwords.specs.declared.smoothing.Smoothing.{Smoothing}
use Rattle.mapwords.specs.declared.value.Value.{Value}
use Rattle.maptree.specs.declared.tree.SymbolTree.{SymbolTree}
use Rattle.mapvalues.specs.Values.{last, smoothing_in}

-- how many times as fine the pictures are of a smoothing, or of none
abbrev pub times_of : Option Smoothing → ℕ
times_of None = 1
times_of (Some smoothing) = smoothing.factor

-- of a map with these values
abbrev pub factor_in : List Value → ℕ
factor_in given = times_of (last smoothing_in given)

-- its pictures are smoothed
abbrev pub is_smooth : List Value → Bool
is_smooth given = nat_lt 1 (factor_in given)

-- a symbol without an image is a disc
abbrev pub is_disc : SymbolTree → Bool
is_disc symbol = not (is_some symbol.image)

-- one of the symbols is a disc
abbrev pub has_disc : List SymbolTree → Bool
has_disc symbols = list_any is_disc symbols

-- a smoothing by 1 is a wrong value where a symbol is a disc, at its line
abbrev pub disc_fault : List SymbolTree → Smoothing → Option Fault
disc_fault symbols smoothing =
    if nat_lt 1 smoothing.factor then None
    else if has_disc symbols then Some (record { line = smoothing.line; kind = WrongValue }) else None

-- the fault of the last smoothing of a map
abbrev pub discs_fault : List Value → List SymbolTree → Option Fault
discs_fault given symbols = option_and_then (disc_fault symbols) (last smoothing_in given)
