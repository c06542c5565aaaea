use Rattle.std.proofs.Common.{◌≡◌, ℕ, ◌<◌, ◌≤◌}
use Rattle.std.specs.Prelude.{IsTrue}
use Rattle.labelcache.specs.Cells.{cell_of, has}
use Rattle.labelcache.specs.declared.cells.Cell.{Cell}
use Rattle.labelcache.proofs.cells.mark_above.Given as goal

-- the cells of the levels above are marked
abbrev pub invariant-loop-level : goal.invariant-loop-level
invariant-loop-level l = record {
  most : l.level ≤ 17;
  grows : (q : Cell) → IsTrue (has l.fn.marked q) → IsTrue (has l.marked q);
  done : (k : ℕ) → l.level < k → k ≤ 17 → IsTrue (has l.marked (cell_of k l.point));
  only : (q : Cell) → q.level ≡ 0 → IsTrue (has l.marked q) → IsTrue (has l.fn.marked q);
}

abbrev pub decreases-loop-level : goal.decreases-loop-level
decreases-loop-level l = l.level
