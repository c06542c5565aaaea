use Rattle.std.proofs.Common.{ℕ, ◌<◌, ◌≡◌, Some, slice_index_or}
use Rattle.std.specs.List.{slice_get}
use Rattle.geom.specs.World.{Area}
use Rattle.gridindex.specs.Groups.{Encloses}
use Rattle.gridindex.proofs.cover.cover_of.Given as goal

-- the cover encloses the boxes of the indices so far
abbrev pub invariant-loop-index : goal.invariant-loop-index
invariant-loop-index l = (i : ℕ) (area : Area) → i < l.index-index → slice_get l.boxes (slice_index_or l.indices i 0) ≡ Some area → Encloses l.cover area
