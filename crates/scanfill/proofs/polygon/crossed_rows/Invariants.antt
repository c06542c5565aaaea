use Rattle.std.proofs.Common.{◌≡◌, ℕ, ◌<◌, ◌≤◌, false, take}
use lib.IntN.{pos}
use Rattle.std.specs.List.{count_by}
use Rattle.clip.specs.EdgeClass.{has_row}
use Rattle.geom.specs.Device.{pixel_centre}
use Rattle.geom.specs.Edge.{crosses_at_or_left}
use Rattle.scanfill.proofs.polygon.crossed_rows.Given as goal

abbrev pub invariant-loop-edge : goal.invariant-loop-edge
invariant-loop-edge l = record {
  within : l.rows.to ≤ l.height;
  none : (i j : ℕ) → j < l.height → has_row l.rows j ≡ false → count_by (crosses_at_or_left (pixel_centre (pos i) (pos j))) (take l.edge-index l.edges) ≡ 0;
}
