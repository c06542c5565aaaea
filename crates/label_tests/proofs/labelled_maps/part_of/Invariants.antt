use Rattle.std.proofs.Common.{◌≤◌, length}
use Rattle.label_tests.proofs.labelled_maps.part_of.Given as goal

abbrev pub invariant-loop-text : goal.invariant-loop-text
invariant-loop-text l = length l.part.items ≤ l.text-index
