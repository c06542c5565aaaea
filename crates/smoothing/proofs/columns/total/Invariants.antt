use Rattle.std.proofs.Common.{◌≡◌, ◌*◌, ◌≤◌, take}
use Rattle.std.specs.Prelude.{sum}
use Rattle.smoothing.proofs.columns.total.Given as goal

abbrev pub invariant-loop-column : goal.invariant-loop-column
invariant-loop-column l = record {
  same : l.total ≡ sum (take l.column-index l.columns);
  few : l.total ≤ l.column-index * (4 * 16711935);
}
