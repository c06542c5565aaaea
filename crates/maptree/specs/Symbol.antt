-- The symbols of a map, and the styles that name them (docs/MAPFILE.md, "Symbols").
use Rattle.std.specs.Prelude.{ℕ, Bool, true, ◌&&◌, if◌then◌else◌, List, [], ◌∷◌, codes, Option, None, Some, option_and_then, unwrap_or}
use Rattle.std.specs.List.{list_any}
use Rattle.std.specs.Option.{option_or}
use Rattle.maplex.specs.Token.{TokenValue}
use Rattle.mapdefs.specs.Name.{is_same_name}
use Rattle.mapwords.specs.declared.fault.Fault.{Fault}
use Rattle.mapwords.specs.declared.fault.ParseKind.TheVariants.{WrongValue, MissingValue}
use Rattle.mapwords.specs.declared.named.Named.{Named}
use Rattle.mapwords.specs.declared.symbol.SymbolType.{SymbolType}
use Rattle.mapwords.specs.declared.symbol.SymbolType.TheVariants.{Pixmap, Ellipse}
use Rattle.mapwords.specs.declared.table.TextKeyword.TheVariants as text
use Rattle.mapwords.specs.declared.value.Value.{Value}
use Rattle.maptree.specs.declared.tree.SymbolTree.{SymbolTree}
use Rattle.maptree.specs.declared.tree.ClassTree.{ClassTree}
use Rattle.maptree.specs.declared.tree.LayerTree.{LayerTree}
use Rattle.mapwords.specs.Fault.{fault_of}
use Rattle.mapvalues.specs.Values.{is_filled, is_radii, last, text_in, type_in}

-- the symbol that a text names; 0 names none
abbrev pub symbol_named : Named → Option Named
symbol_named named = if is_same_name named.text (codes "0") then None else Some named

-- the symbol that the last SYMBOL of a style names
abbrev pub symbol_of : List Value → Option Named
symbol_of style = option_and_then symbol_named (last (text_in text.Symbol) style)

-- the END of a pixmap requires a NAME and an IMAGE
abbrev pub pixmap_fault : Option Named → Option Named → TokenValue → Option Fault
pixmap_fault (Some name) (Some image) t = None
pixmap_fault _ _ t = Some (fault_of MissingValue t)

-- that of a disc requires a NAME, its POINTS and FILLED; an IMAGE is a wrong value, at its line
abbrev pub ellipse_fault : Option Named → Bool → Option Named → TokenValue → Option Fault
ellipse_fault (Some name) true None t = None
ellipse_fault (Some name) true (Some image) t = Some (record { line = image.line; kind = WrongValue })
ellipse_fault _ _ _ t = Some (fault_of MissingValue t)

-- the values of a SYMBOL draw a disc
abbrev pub has_form : List Value → Bool
has_form vs = list_any is_radii vs && list_any is_filled vs

-- the END of a SYMBOL requires a TYPE, and what a symbol of the type has
abbrev pub type_fault : Option SymbolType → List Value → TokenValue → Option Fault
type_fault None vs t = Some (fault_of MissingValue t)
type_fault (Some Pixmap) vs t = pixmap_fault (last (text_in text.Name) vs) (last (text_in text.Image) vs) t
type_fault (Some Ellipse) vs t = ellipse_fault (last (text_in text.Name) vs) (has_form vs) (last (text_in text.Image) vs) t

-- by the last TYPE of the SYMBOL
abbrev pub symbol_fault : List Value → TokenValue → Option Fault
symbol_fault vs t = type_fault (last type_in vs) vs t

-- an empty text where one is missing
abbrev pub no_name : Named
no_name = record { text = []; line = 0 }

-- the image of a symbol of a type: a disc has none
abbrev pub image_of : Option SymbolType → List Value → Option Named
image_of (Some Ellipse) vs = None
image_of _ vs = last (text_in text.Image) vs

-- a SYMBOL has its last NAME, without which its END is refused, and its last IMAGE, if it is a pixmap
abbrev pub symbol_with : List Value → SymbolTree
symbol_with vs = record { name = unwrap_or (last (text_in text.Name) vs) no_name; image = image_of (last type_in vs) vs }

-- one of the symbols has this name
abbrev pub has_symbol : List SymbolTree → List ℕ → Bool
has_symbol symbols name = list_any (λ (symbol : SymbolTree). is_same_name symbol.name.text name) symbols

-- the first fault in a list
abbrev pub first_fault : {A : Type 0} → (A → Option Fault) → List A → Option Fault
first_fault fault [] = None
first_fault fault (x ∷ xs) = option_or (fault x) (first_fault fault xs)

-- a name that none of the symbols has is a wrong value, at its line
abbrev pub named_fault : List SymbolTree → Option Named → Option Fault
named_fault symbols None = None
named_fault symbols (Some named) =
    if has_symbol symbols named.text then None else Some (record { line = named.line; kind = WrongValue })

-- a style may name a symbol that the map doesn't have
abbrev pub style_fault : List SymbolTree → List Value → Option Fault
style_fault symbols style = named_fault symbols (symbol_of style)

-- the first of a class's styles that does
abbrev pub class_fault : List SymbolTree → ClassTree → Option Fault
class_fault symbols class = first_fault (style_fault symbols) class.styles

-- the first of a layer's styles that does, one class after the other
abbrev pub layer_fault : List SymbolTree → LayerTree → Option Fault
layer_fault symbols layer = first_fault (class_fault symbols) layer.body.classes

-- the first of a map's styles that does, in the order of the mapfile
abbrev pub symbols_fault : List SymbolTree → List LayerTree → Option Fault
symbols_fault symbols layers = first_fault (layer_fault symbols) layers
