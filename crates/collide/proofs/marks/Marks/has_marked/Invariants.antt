use Rattle.std.proofs.Common.{◌≤◌}
use Rattle.collide.proofs.Marking.{HasNoneTo}
use Rattle.collide.proofs.marks.Marks.has_marked.Given as goal

abbrev pub invariant-loop-row : goal.invariant-loop-row
invariant-loop-row l = record {
  first : l.top ≤ l.row;
  none : HasNoneTo l.self.columns l.left l.right l.top l.row l.self.words.items;
}
