-- Whether the rule of a class is true of a feature (docs/MAPFILE.md, "Classes").
use Rattle.std.specs.Prelude.{ℕ, Bool, true, List, []}
use Rattle.std.specs.List.{list_any}
use Rattle.std.specs.Option.{option_map_or}
use Rattle.mapdefs.specs.declared.layer.LayerFields.{LayerFields}
use Rattle.mapdefs.specs.declared.feature.FeatureFields.{FeatureFields}
use Rattle.mapdefs.specs.declared.class.Rule.{Rule}
use Rattle.mapdefs.specs.declared.class.Rule.TheVariants.{Always, Equals, OneOf, Logic}
use Rattle.mapdefs.specs.Name.{is_same_name}
use Rattle.mapdefs.specs.Truth.{item_value, truth}

-- the value that the rules of a layer's classes look at
abbrev pub class_value : LayerFields → FeatureFields → List ℕ
class_value layer feature = option_map_or (item_value layer.items feature.values) layer.classitem []

-- whether a rule is true of a feature: by its items' names and values, and by the class item's value
abbrev pub holds : Rule → List (List ℕ) → List (List ℕ) → List ℕ → Bool
holds Always items values value = true
holds (Equals text) items values value = is_same_name text value
holds (OneOf texts) items values value = list_any (λ text. is_same_name text value) texts
holds (Logic e) items values value = truth items values e
