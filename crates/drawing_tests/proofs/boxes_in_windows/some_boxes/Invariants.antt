use Rattle.std.proofs.Common.{◌≡◌, length}
use Rattle.drawing_tests.proofs.boxes_in_windows.some_boxes.Given as goal

abbrev pub invariant-loop-number : goal.invariant-loop-number
invariant-loop-number l = length l.boxes.items ≡ l._number
