use Rattle.std.proofs.Common.{◌*◌, ◌≤◌, length}
use Rattle.std.specs.List.{sum_by}
use Rattle.painting_tests.proofs.painted_maps.feature.Given as goal

abbrev pub invariant-loop-text : goal.invariant-loop-text
invariant-loop-text l = sum_by length l.parts ≤ 100 * l.text-index
