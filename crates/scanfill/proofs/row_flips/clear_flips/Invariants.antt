use Rattle.std.proofs.Common.{◌≡◌, ℕ, ◌<◌, ◌≤◌, false, length, get_or}
use Rattle.scanfill.proofs.row_flips.clear_flips.Given as goal

abbrev pub invariant-loop-column : goal.invariant-loop-column
invariant-loop-column l = record {
  width : length l.flips ≡ length l.fn.flips;
  before : (k : ℕ) → k < l.column → get_or l.flips k false ≡ false;
  after : (k : ℕ) → l.past ≤ k → get_or l.flips k false ≡ false;
}
