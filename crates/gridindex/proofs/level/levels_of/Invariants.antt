use Rattle.std.proofs.Common.{length}
use Rattle.std.specs.List.{All}
use Rattle.gridindex.specs.Groups.{IsLevel}
use Rattle.gridindex.proofs.level.levels_of.Given as goal

abbrev pub invariant-loop-size : goal.invariant-loop-size
invariant-loop-size l = All (IsLevel l.boxes l.order (length l.order)) l.levels.items

abbrev pub decreases-loop-size : goal.decreases-loop-size
decreases-loop-size l = l.size
