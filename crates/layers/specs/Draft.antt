-- Layers of which the changes of a batch are collected (docs/SERVICE.md, "Batches").
use Rattle.std.specs.Prelude.{List, [], ◌∷◌}
use Rattle.mapdefs.specs.Change.{extended}
use Rattle.mapdefs.specs.declared.feature.FeatureFields.{FeatureFields}
use Rattle.mapdefs.specs.declared.layer.LayerFields.{LayerFields}
use Rattle.mapdefs.specs.declared.map.MapFields.{MapFields}

-- the layers, with each list of features appended to the layer at its index
abbrev pub extended_first : List (List FeatureFields) → List LayerFields → List LayerFields
extended_first [] layers = layers
extended_first (more ∷ others) [] = []
extended_first (more ∷ others) (layer ∷ layers) = extended more layer ∷ extended_first others layers

-- the map of these layers
abbrev pub with_more : List (List FeatureFields) → MapFields → MapFields
with_more more m = record m { layers = extended_first more m.layers }
