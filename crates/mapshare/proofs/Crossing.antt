-- The types that may be sent to other threads and read from them, one at a time: for all at once the search would run out of steps.
use Rattle.std.proofs.Crossing.{crosses}
use denote.Param.Send.{IsSend, IsSync, sendable}
use denote.Param.SendFields.{as_row_send, as_row_sync, declared_send, declared_sync, variants_send, variants_sync}
use denote.RattleType.{RattleType}
use Rattle.geom.specs.contracts.coordinate.Coordinate as Coordinate
use Rattle.geom.specs.contracts.micro.Micro as Micro
use Rattle.geom.specs.contracts.world.World as World
use Rattle.geom.specs.contracts.world.WorldBox as WorldBox
use Rattle.gridindex.proofs.grid.Grid.TheSendSync as GridCrosses
use Rattle.gridindex.specs.contracts.grid.Grid as Grid
use Rattle.mapdefs.proofs.expr.Expr.TheLaws.TheKnot as Knot
use Rattle.mapdefs.specs.contracts.block_box.BlockBox as BlockBox
use Rattle.mapdefs.specs.contracts.boxed.Boxed as Boxed
use Rattle.mapdefs.specs.contracts.chain.Chain as Chain
use Rattle.mapdefs.specs.contracts.class.ClassFields as ClassFields
use Rattle.mapdefs.specs.contracts.class.Rule as Rule
use Rattle.mapdefs.specs.contracts.colour.Rgb as Rgb
use Rattle.mapdefs.specs.contracts.expr.Expr as Expr
use Rattle.mapdefs.specs.contracts.feature.FeatureFields as FeatureFields
use Rattle.mapdefs.specs.contracts.font.FontFields as FontFields
use Rattle.mapdefs.specs.contracts.font.Glyph as Glyph
use Rattle.mapdefs.specs.contracts.items.Items as Items
use Rattle.mapdefs.specs.contracts.label.LabelFields as LabelFields
use Rattle.mapdefs.specs.contracts.layer.LayerFields as LayerFields
use Rattle.mapdefs.specs.contracts.limited.Limited as Limited
use Rattle.mapdefs.specs.contracts.map.MapFields as MapFields
use Rattle.mapdefs.specs.contracts.part.Part as Part
use Rattle.mapdefs.specs.contracts.part.Vertices as Vertices
use Rattle.mapdefs.specs.contracts.part_list.PartList as PartList
use Rattle.mapdefs.specs.contracts.part_list.Parts as Parts
use Rattle.mapdefs.specs.contracts.shared.Shared as Shared
use Rattle.mapdefs.specs.contracts.shared_items.SharedItems as SharedItems
use Rattle.mapdefs.specs.contracts.style.StyleFields as StyleFields
use Rattle.mapdefs.specs.contracts.symbol.PixmapFields as PixmapFields
use Rattle.mapdefs.specs.contracts.symbol.Symbol as Symbol
use Rattle.mapdefs.specs.contracts.symbol.SymbolShape as SymbolShape
use Rattle.mapdefs.specs.contracts.text.Text as Text
use Rattle.mapdefs.specs.contracts.texts.Texts as Texts
use Rattle.mapdefs.specs.contracts.values.Values as Values
use Rattle.mapdefs.specs.declared.limited.Limits.{Ghosts}
use Rattle.layers.specs.contracts.layers.Layers as Layers
use Rattle.mapmachine.specs.contracts.machine.Machine as Machine

-- structures and enums whose fields may be sent and read
pub ruleset fielded = (as_row_send, as_row_sync, declared_send, declared_sync, variants_send, variants_sync, sendable, crosses)

pub text-send : IsSend Text.the_row
text-send = search (fielded) depth 9

pub text-sync : IsSync Text.the_row
text-sync = search (fielded) depth 9

pub micro-send : IsSend Micro.the_row
micro-send = search (fielded) depth 12

pub micro-sync : IsSync Micro.the_row
micro-sync = search (fielded) depth 12

pub coordinate-send : IsSend Coordinate.the_row
coordinate-send = search (micro-send, fielded) depth 12

pub coordinate-sync : IsSync Coordinate.the_row
coordinate-sync = search (micro-sync, fielded) depth 12

pub world-send : IsSend World.the_row
world-send = search (coordinate-send, fielded) depth 12

pub world-sync : IsSync World.the_row
world-sync = search (coordinate-sync, fielded) depth 12

pub block_box-send : IsSend BlockBox.the_row
block_box-send = search (coordinate-send, fielded) depth 12

pub block_box-sync : IsSync BlockBox.the_row
block_box-sync = search (coordinate-sync, fielded) depth 12

pub chain-send : IsSend Chain.the_row
chain-send = search (world-send, block_box-send, fielded) depth 12

pub chain-sync : IsSync Chain.the_row
chain-sync = search (world-sync, block_box-sync, fielded) depth 12

pub texts-send : IsSend Texts.the_row
texts-send = search (fielded) depth 12

pub texts-sync : IsSync Texts.the_row
texts-sync = search (fielded) depth 12

module _ (R : RattleType) where
  pub items-send : IsSend R → IsSend (Items.the_row R)
  items-send s = search (fielded) depth 9

  pub items-sync : IsSync R → IsSync (Items.the_row R)
  items-sync y = search (fielded) depth 9

  pub boxed-send : IsSend R → IsSend (Boxed.the_row R)
  boxed-send s = search (fielded) depth 9

  pub boxed-sync : IsSync R → IsSync (Boxed.the_row R)
  boxed-sync y = search (fielded) depth 9

  pub shared-send : IsSend R → IsSync R → IsSend (Shared.the_row R)
  shared-send s y = search (fielded) depth 9

  pub shared-sync : IsSend R → IsSync R → IsSync (Shared.the_row R)
  shared-sync s y = search (fielded) depth 9

module _ (R : RattleType) where
  pub shared_items-send : IsSend R → IsSync R → IsSend (SharedItems.the_row R)
  shared_items-send s y =
      let whole = shared-send (Items.the_row R) (items-send R s) (items-sync R y) in
      search (fielded) depth 9

  pub shared_items-sync : IsSend R → IsSync R → IsSync (SharedItems.the_row R)
  shared_items-sync s y =
      let whole = shared-sync (Items.the_row R) (items-send R s) (items-sync R y) in
      search (fielded) depth 9

-- one vertex or a chain, and one part or several
pub vertices-send : IsSend Vertices.the_row
vertices-send =
    let chain = shared-send Chain.the_row chain-send chain-sync in
    search (world-send, chain, fielded) depth 60 fits 20000

pub vertices-sync : IsSync Vertices.the_row
vertices-sync =
    let chain = shared-sync Chain.the_row chain-send chain-sync in
    search (world-sync, chain, fielded) depth 60 fits 20000

pub part-send : IsSend Part.the_row
part-send = search (vertices-send, fielded) depth 12

pub part-sync : IsSync Part.the_row
part-sync = search (vertices-sync, fielded) depth 12

pub parts-send : IsSend Parts.the_row
parts-send =
    let many = shared_items-send Part.the_row part-send part-sync in
    search (part-send, many, fielded) depth 60 fits 20000

pub parts-sync : IsSync Parts.the_row
parts-sync =
    let many = shared_items-sync Part.the_row part-send part-sync in
    search (part-sync, many, fielded) depth 60 fits 20000

pub part_list-send : IsSend PartList.the_row
part_list-send = search (parts-send, fielded) depth 12

pub part_list-sync : IsSync PartList.the_row
part_list-sync = search (parts-sync, fielded) depth 12

pub values-send : IsSend Values.the_row
values-send =
    let whole = shared-send Texts.the_row texts-send texts-sync in
    search (fielded) depth 12

pub values-sync : IsSync Values.the_row
values-sync =
    let whole = shared-sync Texts.the_row texts-send texts-sync in
    search (fielded) depth 12

-- the types that maps are made of
ruleset wrapped = (text-send, text-sync, micro-send, micro-sync, world-send, world-sync, part_list-send, part_list-sync, values-send, values-sync, items-send, items-sync, boxed-send, boxed-sync, shared-send, shared-sync, shared_items-send, shared_items-sync, fielded)

pub feature-send : IsSend FeatureFields.the_row
feature-send = search (wrapped) depth 12

pub feature-sync : IsSync FeatureFields.the_row
feature-sync = search (wrapped) depth 12

pub rgb-send : IsSend Rgb.the_row
rgb-send = search (fielded) depth 12

pub rgb-sync : IsSync Rgb.the_row
rgb-sync = search (fielded) depth 12

module _ (R : RattleType) (g : Ghosts R.Denot) where
  pub limited-send : IsSend R → IsSend (Limited.the_row R g)
  limited-send s = search (fielded) depth 9

  pub limited-sync : IsSync R → IsSync (Limited.the_row R g)
  limited-sync y = search (fielded) depth 9

-- an expression contains expressions
ruleset knotted = (Knot.crosses, wrapped)

pub expr-send : IsSend Expr.the_row
expr-send = search (knotted) depth 60 fits 20000

pub expr-sync : IsSync Expr.the_row
expr-sync = search (knotted) depth 60 fits 20000

-- fields of classes and symbols
ruleset small = (expr-send, expr-sync, rgb-send, rgb-sync, limited-send, limited-sync, wrapped)

pub rule-send : IsSend Rule.the_row
rule-send = search (small) depth 60 fits 20000

pub rule-sync : IsSync Rule.the_row
rule-sync = search (small) depth 60 fits 20000

pub style-send : IsSend StyleFields.the_row
style-send = search (small) depth 60 fits 20000

pub style-sync : IsSync StyleFields.the_row
style-sync = search (small) depth 60 fits 20000

pub label-send : IsSend LabelFields.the_row
label-send = search (small) depth 60 fits 20000

pub label-sync : IsSync LabelFields.the_row
label-sync = search (small) depth 60 fits 20000

-- parts of a class
ruleset parts = (rule-send, rule-sync, style-send, style-sync, label-send, label-sync, small)

pub class-send : IsSend ClassFields.the_row
class-send = search (parts) depth 60 fits 20000

pub class-sync : IsSync ClassFields.the_row
class-sync = search (parts) depth 60 fits 20000

-- parts of a layer
ruleset listed = (class-send, class-sync, feature-send, feature-sync, small)

pub layer-send : IsSend LayerFields.the_row
layer-send = search (listed) depth 60 fits 20000

pub layer-sync : IsSync LayerFields.the_row
layer-sync = search (listed) depth 60 fits 20000

pub pixmap-send : IsSend PixmapFields.the_row
pixmap-send = search (small) depth 60 fits 20000

pub pixmap-sync : IsSync PixmapFields.the_row
pixmap-sync = search (small) depth 60 fits 20000

pub shape-send : IsSend SymbolShape.the_row
shape-send = search (pixmap-send, small) depth 60 fits 20000

pub shape-sync : IsSync SymbolShape.the_row
shape-sync = search (pixmap-sync, small) depth 60 fits 20000

pub symbol-send : IsSend Symbol.the_row
symbol-send = search (shape-send, small) depth 60 fits 20000

pub symbol-sync : IsSync Symbol.the_row
symbol-sync = search (shape-sync, small) depth 60 fits 20000

pub glyph-send : IsSend Glyph.the_row
glyph-send = search (small) depth 60 fits 20000

pub glyph-sync : IsSync Glyph.the_row
glyph-sync = search (small) depth 60 fits 20000

pub font-send : IsSend FontFields.the_row
font-send = search (glyph-send, small) depth 60 fits 20000

pub font-sync : IsSync FontFields.the_row
font-sync = search (glyph-sync, small) depth 60 fits 20000

pub world_box-send : IsSend WorldBox.the_row
world_box-send = search (small) depth 60 fits 20000

pub world_box-sync : IsSync WorldBox.the_row
world_box-sync = search (small) depth 60 fits 20000

-- parts of a map
ruleset drawn = (symbol-send, symbol-sync, font-send, font-sync, layer-send, layer-sync, world_box-send, world_box-sync, small)

pub map-send : IsSend MapFields.the_row
map-send = search (drawn) depth 60 fits 20000

pub map-sync : IsSync MapFields.the_row
map-sync = search (drawn) depth 60 fits 20000

pub grid-send : IsSend Grid.the_row
grid-send = search (GridCrosses.the_send, small) depth 60 fits 20000

pub grid-sync : IsSync Grid.the_row
grid-sync = search (GridCrosses.the_sync, small) depth 60 fits 20000

-- parts of a machine
ruleset held = (map-send, map-sync, grid-send, grid-sync, small)

pub layers-send : IsSend Layers.the_row
layers-send = search (held) depth 60 fits 20000

pub layers-sync : IsSync Layers.the_row
layers-sync = search (held) depth 60 fits 20000

pub machine-send : IsSend Machine.the_row
machine-send = search (layers-send, small) depth 60 fits 20000

pub machine-sync : IsSync Machine.the_row
machine-sync = search (layers-sync, small) depth 60 fits 20000
