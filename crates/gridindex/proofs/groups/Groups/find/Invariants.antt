use Rattle.std.proofs.Common.{◌≤◌, ◌-◌}
use Rattle.gridindex.specs.Groups.{HasFound}
use Rattle.gridindex.proofs.groups.Groups.find.Given as goal

abbrev pub invariant-loop-at : goal.invariant-loop-at
invariant-loop-at l = record {
  found : HasFound l.fn.window l.boxes l.self.order.items l.at l.found.items;
  bound : l.at ≤ l.self.grouped;
}

abbrev pub decreases-loop-at : goal.decreases-loop-at
decreases-loop-at l = l.self.grouped - l.at
