use Rattle.std.proofs.Common.{◌*◌, ◌≤◌}
use Rattle.smoothing.specs.Fine.{pixel_at, pixels_in}
use Rattle.smoothing.specs.Sums.{AreSums}
use Rattle.smoothing.proofs.row.block_sums.Given as goal

abbrev pub invariant-loop-row : goal.invariant-loop-row
invariant-loop-row g l = record {
  sums : AreSums (pixels_in (pixel_at l.fine l.width) l.first g.row.N 0 l.row) l.sums;
  few : l.sums.outer ≤ l.row * (g.row.N * 16711935);
  fewer : l.sums.inner ≤ l.row * (g.row.N * 16711935);
}
