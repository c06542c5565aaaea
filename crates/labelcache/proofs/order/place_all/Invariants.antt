use Rattle.std.proofs.Common.{length}
use Rattle.labelcache.specs.Placement.{setting}
use Rattle.labelcache.specs.Placing.{IsPlacedTo}
use Rattle.labelcache.proofs.order.place_all.Given as goal

abbrev pub invariant-loop-priority : goal.invariant-loop-priority
invariant-loop-priority l = IsPlacedTo (setting l.page l.candidates) l.priority (length l.candidates) l.placing

abbrev pub decreases-loop-priority : goal.decreases-loop-priority
decreases-loop-priority l = l.priority
