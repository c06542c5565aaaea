use Rattle.std.proofs.Common.{◌≤◌, length}
use Rattle.painting_tests.proofs.painted_maps.ring.Given as goal

abbrev pub invariant-loop-text : goal.invariant-loop-text
invariant-loop-text l = length l.ring.items ≤ l.text-index
