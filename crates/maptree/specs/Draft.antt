-- What was read of the open blocks (docs/MAPFILE.md, "Blocks and words").
use Rattle.std.specs.Prelude.{Bool, false, nat_le, if◌then◌else◌, [], ◌∷◌, length, None, is_some}
use Rattle.std.specs.Option.{option_or}
use Rattle.mapdefs.specs.declared.limits.TheConstants.{MAX_SYMBOLS, MAX_LAYERS, MAX_CLASSES, MAX_STYLES, MAX_FEATURES}
use Rattle.mapwords.specs.declared.role.Block.{Block}
use Rattle.mapwords.specs.declared.role.Block.TheVariants as block
use Rattle.mapwords.specs.declared.table.TextKeyword.TheVariants as text
use Rattle.mapwords.specs.declared.value.Value.{Value}
use Rattle.maptree.specs.declared.tree.ClassTree.{ClassTree}
use Rattle.maptree.specs.declared.tree.LayerBody.{LayerBody}
use Rattle.maptree.specs.declared.tree.MapTree.{MapTree}
use Rattle.maptree.specs.declared.draft.FeatureDraft.{FeatureDraft}
use Rattle.maptree.specs.declared.draft.Drafts.{Drafts}
use Rattle.maptree.specs.Data.{with_font_of}
use Rattle.maptree.specs.Entries.{has_effect}
use Rattle.maptree.specs.Parts.{no_parts}
use Rattle.mapvalues.specs.Values.{words_in}

-- a MAP of which nothing was read
abbrev pub new_map : MapTree
new_map = record { values = []; symbols = []; layers = []; files = [] }

-- a LAYER of which nothing was read
abbrev pub new_layer : LayerBody
new_layer = record { values = []; classes = []; features = [] }

-- a CLASS of which nothing was read
abbrev pub new_class : ClassTree
new_class = record { values = []; styles = []; label = None }

-- a FEATURE of which nothing was read
abbrev pub new_feature : FeatureDraft
new_feature = record { parts = no_parts; text = None; items = None }

-- no block was read
abbrev pub fresh : Drafts
fresh = record { map = new_map; symbol = []; layer = new_layer; class = new_class; style = []; label = []; feature = new_feature }

-- a value of a MAP is noted
abbrev pub noted_by_map : Value → MapTree → MapTree
noted_by_map given map = record map { values = given ∷ map.values; files = with_font_of given map.files }

-- a value of a FEATURE is noted, if it is its TEXT or its ITEMS
abbrev pub noted_by_feature : Value → FeatureDraft → FeatureDraft
noted_by_feature given feature = record feature {
  text = option_or (words_in text.Text given) feature.text;
  items = option_or (words_in text.Items given) feature.items;
}

-- a value is noted by its block
abbrev pub noted : Block → Value → Drafts → Drafts
noted block.Map given d = record d { map = noted_by_map given d.map }
noted block.Web given d = record d { map = record d.map { values = given ∷ d.map.values } }
noted block.WebMetadata given d = record d { map = record d.map { values = given ∷ d.map.values } }
noted block.Symbol given d = record d { symbol = given ∷ d.symbol }
noted block.Layer given d = record d { layer = record d.layer { values = given ∷ d.layer.values } }
noted block.LayerMetadata given d = record d { layer = record d.layer { values = given ∷ d.layer.values } }
noted block.Class given d = record d { class = record d.class { values = given ∷ d.class.values } }
noted block.Style given d = record d { style = given ∷ d.style }
noted block.Label given d = record d { label = given ∷ d.label }
noted block.Feature given d = record d { feature = noted_by_feature given d.feature }
noted _ given d = d

-- a value that a block was given is noted, if it has an effect
abbrev pub with_value : Block → Value → Drafts → Drafts
with_value b given d = if has_effect given then noted b given d else d

-- a further block of this kind is one more than a map may have; the others have no limit of their own
abbrev pub is_full : Block → Drafts → Bool
is_full block.Symbol d = nat_le MAX_SYMBOLS (length d.map.symbols)
is_full block.Layer d = nat_le MAX_LAYERS (length d.map.layers)
is_full block.Class d = nat_le MAX_CLASSES (length d.layer.classes)
is_full block.Style d = nat_le MAX_STYLES (length d.class.styles)
is_full block.Label d = is_some d.class.label
is_full block.Feature d = nat_le MAX_FEATURES (length d.layer.features)
is_full _ d = false
