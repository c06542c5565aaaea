use Rattle.std.proofs.Common.{◌≡◌, ◌≤◌, length}
use Rattle.collide.proofs.Marking.{AreMarkedTo}
use Rattle.collide.proofs.marks.Marks.mark.Given as goal

abbrev pub invariant-loop-row : goal.invariant-loop-row
invariant-loop-row l = record {
  columns : l.self.columns ≡ l.fn.self.columns;
  rows : l.self.rows ≡ l.fn.self.rows;
  count : length l.self.words.items ≡ length l.fn.self.words.items;
  first : l.top ≤ l.row;
  marked : AreMarkedTo l.fn.self.columns l.fn.self.rows l.left l.right l.top l.bottom l.row l.fn.self.words.items l.self.words.items;
}
