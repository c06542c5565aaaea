use Rattle.std.proofs.Common.{◌≡◌, ℕ, ◌<◌, ◌≤◌, get_or}
use Rattle.scanfill.specs.Crossing.{row_of}
use Rattle.scanfill.specs.declared.crossing.Crossing.{Crossing}
use Rattle.scanfill.proofs.crossings.begun_by.Given as goal

abbrev pub invariant-loop-at : goal.invariant-loop-at
invariant-loop-at l = (k : ℕ) (d : Crossing) → l.begun ≤ k → k < l.at → row_of (get_or l.list k d) ≡ l.row
