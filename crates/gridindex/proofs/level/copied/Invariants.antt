use Rattle.std.proofs.Common.{ℕ, List}
use Rattle.std.specs.List.{All}
use Rattle.geom.specs.World.{Area}
use Rattle.gridindex.specs.Groups.{IsLevel}
use Rattle.gridindex.proofs.level.copied.Given as goal

-- what the levels cover, the copies so far cover
abbrev pub invariant-loop-level : goal.invariant-loop-level
invariant-loop-level l = (boxes : List Area) (order : List ℕ) (grouped : ℕ) → All (IsLevel boxes order grouped) l.levels → All (IsLevel boxes order grouped) l.copies.items
