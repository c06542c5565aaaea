use Rattle.std.proofs.Common.{◌≡◌, length}
use Rattle.mapvalues.specs.Values.{items_in, last}
use Rattle.mapvalues.proofs.values.Values.into_items.Given as goal

abbrev pub invariant-loop-value : goal.invariant-loop-value
invariant-loop-value l = last items_in l.given ≡ last items_in l.fn.self

abbrev pub decreases-loop-value : goal.decreases-loop-value
decreases-loop-value l = length l.given
