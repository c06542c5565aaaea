-- The widths of labels' outlines, which a smoothed map judges (docs/MAPFILE.md, "Labels" and "Smoothing").
use Rattle.std.specs.Prelude.{ℕ, if◌then◌else◌, List, Option, None, Some, is_some, option_and_then}
use Rattle.std.specs.Option.{option_or}
use Rattle.mapwords.specs.Count.{counted}
use Rattle.mapwords.specs.declared.fault.Fault.{Fault}
use Rattle.mapwords.specs.declared.fault.ParseKind.TheVariants.{WrongValue}
use Rattle.mapwords.specs.declared.named.Named.{Named}
use Rattle.mapwords.specs.declared.table.CountKeyword.TheVariants as count
use Rattle.mapwords.specs.declared.table.TextKeyword.TheVariants as text
use Rattle.mapwords.specs.declared.value.Value.{Value}
use Rattle.maptree.specs.declared.tree.ClassTree.{ClassTree}
use Rattle.maptree.specs.declared.tree.LayerTree.{LayerTree}
use Rattle.maptree.specs.declared.tree.SymbolTree.{SymbolTree}
use Rattle.maptree.specs.Symbol.{first_fault, symbols_fault}
use Rattle.maptree.specs.Smoothing.{is_smooth, discs_fault}
use Rattle.mapvalues.specs.Values.{last, text_in}

-- the width that a text means, if it is one
abbrev pub width_in : Named → Option ℕ
width_in named = counted count.OutlineWidth named.text

-- the width that the last OUTLINEWIDTH of a label means
abbrev pub outline_width_of : List Value → Option ℕ
outline_width_of label = option_and_then width_in (last (text_in text.OutlineWidth) label)

-- a text that is no width is a wrong value, at its line
abbrev pub width_fault : Named → Option Fault
width_fault named = if is_some (width_in named) then None else Some (record { line = named.line; kind = WrongValue })

-- the fault of a label's last OUTLINEWIDTH
abbrev pub label_width_fault : List Value → Option Fault
label_width_fault label = option_and_then width_fault (last (text_in text.OutlineWidth) label)

-- of a class's label
abbrev pub class_width_fault : ClassTree → Option Fault
class_width_fault class = option_and_then label_width_fault class.label

-- of the first of a layer's classes that has one
abbrev pub layer_width_fault : LayerTree → Option Fault
layer_width_fault layer = first_fault class_width_fault layer.body.classes

-- of the first of a map's layers, in the order of the mapfile, where the map is smoothed
abbrev pub widths_fault : List Value → List LayerTree → Option Fault
widths_fault given layers = if is_smooth given then first_fault layer_width_fault layers else None

-- what is wrong at the END of a MAP: a style names no symbol, or else a disc is in a map that isn't smoothed, or a label has no
-- width that a smoothed map may have
abbrev pub map_fault : List Value → List SymbolTree → List LayerTree → Option Fault
map_fault given symbols layers = option_or (symbols_fault symbols layers) (option_or (discs_fault given symbols) (widths_fault given layers))
