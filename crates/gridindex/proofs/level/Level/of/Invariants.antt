use Rattle.std.proofs.Common.{◌≡◌, ◌<◌, ◌≤◌, ◌*◌, ◌-◌, length}
use Rattle.gridindex.specs.Groups.{Covers}
use Rattle.gridindex.proofs.level.Level.of.Given as goal

-- the groups so far have their covers, and all but the last of the order are whole
abbrev pub invariant-loop-from : goal.invariant-loop-from
invariant-loop-from l = record {
  covers : Covers l.boxes l.order l.from l.size l.covers.items;
  whole : l.from < length l.order → l.from ≡ length l.covers.items * l.size;
  bound : l.from ≤ length l.order;
}

abbrev pub decreases-loop-from : goal.decreases-loop-from
decreases-loop-from l = length l.order - l.from
