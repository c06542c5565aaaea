-- What the entries of a block come to (docs/MAPFILE.md, "Blocks and words"): the last of equal keywords counts, and
-- equal blocks add up. Only its own entries count for a block.
use Rattle.std.specs.Prelude.{List, [], map, unwrap_or, option_map}
use Rattle.mapdefs.specs.declared.layer.Geometry.TheVariants.{Polygon}
use Rattle.mapwords.specs.declared.role.Block.{Block}
use Rattle.mapwords.specs.declared.role.Block.TheVariants as block
use Rattle.mapwords.specs.declared.table.TextKeyword.TheVariants as text
use Rattle.maptree.specs.declared.tree.ClassTree.{ClassTree}
use Rattle.maptree.specs.declared.tree.FeatureTree.{FeatureTree}
use Rattle.maptree.specs.declared.tree.LayerBody.{LayerBody}
use Rattle.maptree.specs.declared.tree.LayerTree.{LayerTree}
use Rattle.maptree.specs.declared.tree.SymbolTree.{SymbolTree}
use Rattle.maptree.specs.declared.tree.MapTree.{MapTree}
use Rattle.maptree.specs.declared.tree.UsedFile.{UsedFile}
use Rattle.maptree.specs.Data.{with_named_file, with_font_of}
use Rattle.maptree.specs.Entries.{Entries, Nothing, Said, Vertex, Inside, values, blocks, last_block, vertices}
use Rattle.maptree.specs.Symbol.{no_name, symbol_with}
use Rattle.mapvalues.specs.Values.{geometry_in, last, text_in, words_in}

-- a CLASS has its values, those of its STYLE blocks and those of its LABEL
abbrev pub class_tree : Entries → ClassTree
class_tree own = record {
  values = values own;
  styles = map values (blocks block.Style own);
  label = option_map values (last_block block.Label own);
}

-- a FEATURE has its POINTS blocks, each the list of its vertices, its last TEXT and its last ITEMS
abbrev pub feature_tree : Entries → FeatureTree
feature_tree own = record {
  parts = map vertices (blocks block.Points own);
  text = last (words_in text.Text) (values own);
  items = last (words_in text.Items) (values own);
}

-- a LAYER says its values, its CLASS blocks and its FEATURE blocks
abbrev pub layer_body : Entries → LayerBody
layer_body own = record {
  values = values own;
  classes = map class_tree (blocks block.Class own);
  features = map feature_tree (blocks block.Feature own);
}

-- a LAYER has its last NAME and its last TYPE, without which its END is refused, its last DATA, and what it says
abbrev pub layer_tree : Entries → LayerTree
layer_tree own = record {
  name = unwrap_or (last (text_in text.Name) (values own)) no_name;
  geometry = unwrap_or (last geometry_in (values own)) Polygon;
  table = last (text_in text.Data) (values own);
  body = layer_body own;
}

-- a SYMBOL has what its values say
abbrev pub symbol_tree : Entries → SymbolTree
symbol_tree own = symbol_with (values own)

-- the files that are used, with that of a block of MAP after them: a SYMBOL uses that of its IMAGE, if it has one, a LAYER that of
-- its DATA
abbrev pub with_file_of : Block → Entries → List UsedFile → List UsedFile
with_file_of block.Symbol own files = with_named_file (symbol_tree own).image files
with_file_of block.Layer own files = with_named_file (last (text_in text.Data) (values own)) files
with_file_of _ own files = files

-- the files that a MAP uses, in the order of their uses
abbrev pub files_used : Entries → List UsedFile
files_used Nothing = []
files_used (Said given before) = with_font_of given (files_used before)
files_used (Vertex vertex before) = files_used before
files_used (Inside b inner before) = with_file_of b inner (files_used before)

-- a MAP has its values, its SYMBOL and LAYER blocks, and the files that these and its fonts use
abbrev pub map_tree : Entries → MapTree
map_tree own = record {
  values = values own;
  symbols = map symbol_tree (blocks block.Symbol own);
  layers = map layer_tree (blocks block.Layer own);
  files = files_used own;
}
