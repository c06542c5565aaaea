-- How a part keeps its vertices.
use Rattle.std.specs.Prelude.{List, [], ◌∷◌}
use Rattle.geom.specs.World.{Place}
use Rattle.mapdefs.specs.declared.part.Vertices.{Vertices}
use Rattle.mapdefs.specs.declared.part.Vertices.TheVariants.{One, Many}

-- one vertex, or any number of them
abbrev pub vertices_of : Vertices → List Place
vertices_of (One place) = place ∷ []
vertices_of (Many places) = places
