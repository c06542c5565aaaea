-- The text of the features that were hit (OGC 06-042, 7.4; docs/WMS.md, "Feature information").
use Rattle.std.specs.Prelude.{ℕ, List, [], ◌∷◌, ◌++◌, slice_get, codes}
use Rattle.std.specs.Fmt.{decimal}
use Rattle.std.specs.List.{flat_map}
use Rattle.std.specs.Option.{option_map_or}
use Rattle.mapdefs.specs.declared.feature.FeatureFields.{FeatureFields}
use Rattle.mapdefs.specs.declared.layer.LayerFields.{LayerFields}
use Rattle.mapdefs.specs.declared.map.MapFields.{MapFields}
use Rattle.featureinfo.specs.declared.layer_hits.LayerHits.{LayerHits}

-- the line of an item
unfoldable pub item_line : List ℕ → List ℕ → List ℕ
item_line name value = codes "    " ++ (name ++ (codes " = '" ++ (value ++ codes "'\n")))

-- the lines of all items, each with its value
abbrev pub item_lines : List (List ℕ) → List (List ℕ) → List ℕ
item_lines [] values = []
item_lines (name ∷ names) [] = []
item_lines (name ∷ names) (value ∷ values) = item_line name value ++ item_lines names values

-- the lines of a feature: its index in the layer, counted from 0, and its items
unfoldable pub feature_lines : List (List ℕ) → ℕ → FeatureFields → List ℕ
feature_lines names index feature = codes "  Feature " ++ (decimal index ++ (codes ":\n" ++ item_lines names feature.values))

-- the lines of the feature at an index
abbrev pub lines_at : LayerFields → ℕ → List ℕ
lines_at layer index = option_map_or (feature_lines layer.items index) (slice_get layer.features index) []

-- the line of a layer
unfoldable pub layer_line : List ℕ → List ℕ
layer_line name = codes "Layer '" ++ (name ++ codes "'\n")

-- the lines of a layer's hits: none without a hit
abbrev pub layer_lines : LayerFields → List ℕ → List ℕ
layer_lines layer [] = []
layer_lines layer (index ∷ indices) = layer_line layer.name ++ flat_map (lines_at layer) (index ∷ indices)

-- the lines of the hits of a layer of the map
abbrev pub hit_lines : MapFields → LayerHits → List ℕ
hit_lines map hits = option_map_or (λ (layer : LayerFields). layer_lines layer hits.features) (slice_get map.layers hits.layer) []

-- the first line, which every text has
unfoldable pub first_line : List ℕ
first_line = codes "GetFeatureInfo results:\n"

-- the text of the hits of some layers
abbrev pub answer : MapFields → List LayerHits → List ℕ
answer map hits = first_line ++ flat_map (hit_lines map) hits
