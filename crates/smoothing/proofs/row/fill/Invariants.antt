use Rattle.std.proofs.Common.{◌≡◌, ℕ, ◌-◌, ◌<◌, ◌≤◌, Some, length, slice_get}
use Rattle.smoothing.specs.Fine.{pixel_at, smoothed}
use Rattle.smoothing.proofs.row.fill.Given as goal

abbrev pub invariant-groups : goal.invariant-groups
invariant-groups g l = record {
  within : l.i ≤ length l.row;
  filled : (k : ℕ) → k < l.i → slice_get l.row k ≡ Some (smoothed g.row.N (pixel_at l.fine l.width) k 0);
}

abbrev pub decreases-groups : goal.decreases-groups
decreases-groups g l = length l.initial.row - l.i

abbrev pub invariant-rest : goal.invariant-rest
invariant-rest g l = record {
  within : l.i ≤ length l.row;
  filled : (k : ℕ) → k < l.i → slice_get l.row k ≡ Some (smoothed g.row.N (pixel_at l.fine l.width) k 0);
}

abbrev pub decreases-rest : goal.decreases-rest
decreases-rest g l = length l.initial.row - l.i
