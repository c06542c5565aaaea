-- The names of layers (docs/MAPFILE.md, "Names").
use Rattle.std.specs.Prelude.{ℕ, Bool, List}
use Rattle.std.specs.List.{list_any}
use Rattle.mapdefs.specs.Name.{is_same_name}
use Rattle.maptree.specs.declared.tree.LayerTree.{LayerTree}

-- one of the layers has this name
abbrev pub is_taken : List ℕ → List LayerTree → Bool
is_taken name layers = list_any (λ (layer : LayerTree). is_same_name layer.name.text name) layers
