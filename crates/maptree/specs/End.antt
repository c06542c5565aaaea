-- What an END does, and what is checked at it (docs/MAPFILE.md, "Blocks and words").
use Rattle.std.specs.Prelude.{◌==◌, if◌then◌else◌, List, [], ◌∷◌, ◌++◌, length, Option, None, Some, Result, Ok, Err}
use Rattle.maplex.specs.Token.{TokenValue}
use Rattle.mapdefs.specs.declared.layer.Geometry.{Geometry}
use Rattle.maptree.specs.Name.{is_taken}
use Rattle.mapwords.specs.declared.role.Block.{Block}
use Rattle.mapwords.specs.declared.role.Block.TheVariants as block
use Rattle.mapwords.specs.declared.fault.Fault.{Fault}
use Rattle.mapwords.specs.declared.fault.ParseKind.TheVariants.{MissingValue, DuplicateName}
use Rattle.mapwords.specs.declared.named.Named.{Named}
use Rattle.mapwords.specs.declared.table.TextKeyword.TheVariants as text
use Rattle.mapwords.specs.declared.value.Value.{Value}
use Rattle.maptree.specs.declared.tree.LayerBody.{LayerBody}
use Rattle.maptree.specs.declared.tree.LayerTree.{LayerTree}
use Rattle.maptree.specs.declared.tree.SymbolTree.{SymbolTree}
use Rattle.maptree.specs.declared.draft.Drafts.{Drafts}
use Rattle.mapwords.specs.Fault.{refused}
use Rattle.mapdefs.specs.Outcome.{and_then}
use Rattle.maptree.specs.Data.{table_fault, with_named_file}
use Rattle.maptree.specs.Parts.{with_part}
use Rattle.maptree.specs.Outline.{map_fault}
use Rattle.maptree.specs.Draft.{new_layer, new_class, new_feature}
use Rattle.maptree.specs.Symbol.{symbol_fault, symbol_with}
use Rattle.mapvalues.specs.Values.{geometry_in, last, text_in}

-- a layer with this name and this geometry, and with what it says
abbrev pub layer_with : Named → Geometry → LayerBody → LayerTree
layer_with name geometry body = record { name = name; geometry = geometry; table = last (text_in text.Data) body.values; body = body }

-- what was read, unless there is a fault
abbrev pub unless_fault : {A : Type 0} → Option Fault → A → Result A Fault
unless_fault None a = Ok a
unless_fault (Some f) a = Err f

-- a layer with its name and its geometry, unless an earlier layer has the name, or its table can't be of the geometry
abbrev pub named_layer : Named → Geometry → LayerBody → List LayerTree → Result LayerTree Fault
named_layer name geometry body earlier =
    if is_taken name.text earlier then Err (record { line = name.line; kind = DuplicateName })
    else unless_fault (table_fault geometry (last (text_in text.Data) body.values)) (layer_with name geometry body)

-- a layer has a name and a geometry
abbrev pub finished_layer : Option Named → Option Geometry → LayerBody → List LayerTree → TokenValue → Result LayerTree Fault
finished_layer (Some name) (Some geometry) body earlier t = named_layer name geometry body earlier
finished_layer _ _ body earlier t = refused MissingValue t

-- at the END of a LAYER the map has it, and uses the file of its table
abbrev pub layer_end : Drafts → TokenValue → Result Drafts Fault
layer_end d t = and_then (finished_layer (last (text_in text.Name) d.layer.values) (last geometry_in d.layer.values) d.layer d.map.layers t) (λ layer.
    Ok (record d { map = record d.map { layers = d.map.layers ++ layer ∷ []; files = with_named_file layer.table d.map.files }; layer = new_layer }))

-- at the END of a CLASS the layer has it
abbrev pub class_end : Drafts → Drafts
class_end d = record d { layer = record d.layer { classes = d.layer.classes ++ d.class ∷ [] }; class = new_class }

-- at the END of a STYLE the class has it
abbrev pub style_end : Drafts → Drafts
style_end d = record d { class = record d.class { styles = d.class.styles ++ d.style ∷ [] }; style = [] }

-- at the END of a LABEL the class has it
abbrev pub label_end : Drafts → Drafts
label_end d = record d { class = record d.class { label = Some d.label }; label = [] }

-- at the END of a FEATURE, which has parts, the layer has it
abbrev pub feature_end : Drafts → TokenValue → Result Drafts Fault
feature_end d t =
    if length d.feature.parts.whole == 0 then refused MissingValue t
    else Ok (record d {
      layer = record d.layer { features = d.layer.features ++ record { parts = d.feature.parts.whole; text = d.feature.text; items = d.feature.items } ∷ [] };
      feature = new_feature;
    })

-- at the END of POINTS, which have vertices, they are a part of the feature
abbrev pub points_end : Drafts → TokenValue → Result Drafts Fault
points_end d t =
    if length d.feature.parts.next == 0 then refused MissingValue t
    else Ok (record d { feature = record d.feature { parts = with_part d.feature.parts } })

-- the symbol with these values, if they are those of one
abbrev pub finished_symbol : List Value → TokenValue → Result SymbolTree Fault
finished_symbol vs t = unless_fault (symbol_fault vs t) (symbol_with vs)

-- at the END of a SYMBOL the map has it, and uses the file of its image, if it has one
abbrev pub symbol_end : Drafts → TokenValue → Result Drafts Fault
symbol_end d t = and_then (finished_symbol d.symbol t) (λ symbol.
    Ok (record d { map = record d.map { symbols = d.map.symbols ++ symbol ∷ []; files = with_named_file symbol.image d.map.files }; symbol = [] }))

-- at the END of MAP its styles name symbols that it has, and where it is smoothed its labels have widths of outlines
abbrev pub map_end : Drafts → Result Drafts Fault
map_end d = unless_fault (map_fault d.map.values d.map.symbols d.map.layers) d

-- what the END of a block does: the parent has the block, and the next one of the kind begins anew
abbrev pub ends : Block → Drafts → TokenValue → Result Drafts Fault
ends block.Map d t = map_end d
ends block.Symbol d t = symbol_end d t
ends block.Layer d t = layer_end d t
ends block.Class d t = Ok (class_end d)
ends block.Style d t = Ok (style_end d)
ends block.Label d t = Ok (label_end d)
ends block.Feature d t = feature_end d t
ends block.Points d t = points_end d t
ends _ d t = Ok d
