use Rattle.std.proofs.Common.{◌+◌, ◌≤◌, length}
use Rattle.drawing_tests.proofs.boxes_in_windows.add_some.Given as goal

abbrev pub invariant-loop-number : goal.invariant-loop-number
invariant-loop-number l = length l.grid ≤ 5000 + l._number
