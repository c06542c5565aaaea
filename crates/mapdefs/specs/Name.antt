-- Layers by their names (docs/MAPFILE.md, "Names").
use Rattle.std.specs.Prelude.{ℕ, Bool, List, Option, nat_eq, position}
use Rattle.std.specs.Cmp.Lexicographic.{pointwise}
use Rattle.mapdefs.specs.declared.layer.LayerFields.{LayerFields}

-- two names are the same, byte by byte
abbrev pub is_same_name : List ℕ → List ℕ → Bool
is_same_name a b = pointwise nat_eq a b

-- the index of the first layer of this name
abbrev pub index_of : List ℕ → List LayerFields → Option ℕ
index_of name layers = position (λ (layer : LayerFields). is_same_name layer.name name) layers
