use Rattle.std.proofs.Common.{◌≤◌, length}
use Rattle.labelcache.specs.Placement.{setting}
use Rattle.labelcache.specs.Placing.{IsPlacedTo}
use Rattle.labelcache.proofs.order.place_priority.Given as goal

abbrev pub invariant-loop-number : goal.invariant-loop-number
invariant-loop-number l = record {
  most : l.number ≤ length l.candidates;
  placed : IsPlacedTo (setting l.page l.candidates) l.priority l.number l.placing;
}

abbrev pub decreases-loop-number : goal.decreases-loop-number
decreases-loop-number l = l.number
