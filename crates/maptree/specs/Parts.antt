-- The vertices of a feature (docs/MAPFILE.md, "Features").
use Rattle.std.specs.Prelude.{◌≡◌, ℕ, ◌+◌, ◌≤◌, List, [], ◌∷◌, ◌++◌, length, sum_by}
use Rattle.geom.specs.World.{Place}
use Rattle.mapdefs.specs.declared.limits.TheConstants.{MAX_VERTICES}

-- the parts of a feature as far as they are read: those that are whole, and the vertices of the next
pub record PartsSoFar : Type 0 where
  pub whole : List (List Place)
  pub next : List Place

-- nothing was read
abbrev pub no_parts : PartsSoFar
no_parts = record { whole = []; next = [] }

-- how many vertices they have
abbrev pub vertex_count : PartsSoFar → ℕ
vertex_count parts = sum_by length parts.whole + length parts.next

-- a further vertex of the next part
abbrev pub with_vertex : Place → PartsSoFar → PartsSoFar
with_vertex vertex parts = record parts { next = parts.next ++ vertex ∷ [] }

-- the next part is whole
abbrev pub with_part : PartsSoFar → PartsSoFar
with_part parts = record { whole = parts.whole ++ parts.next ∷ []; next = [] }

-- so many vertices are in whole parts, and all are within the limit
pub record ArePartsSoFar (count : ℕ) (parts : PartsSoFar) : Type 0 where
  pub counted : count ≡ sum_by length parts.whole
  pub limit : count + length parts.next ≤ MAX_VERTICES
