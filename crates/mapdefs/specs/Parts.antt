-- How a feature keeps its parts.
use Rattle.std.specs.Prelude.{List, [], ◌∷◌}
use Rattle.geom.specs.World.{Place}
use Rattle.mapdefs.specs.declared.part_list.Parts.{Parts}
use Rattle.mapdefs.specs.declared.part_list.Parts.TheVariants.{One, Many}

-- one part, or any number of them
abbrev pub parts_of : Parts → List (List Place)
parts_of (One part) = part ∷ []
parts_of (Many parts) = parts
