use Rattle.std.proofs.Common.{◌≡◌, ℕ, ◌<◌, length, take}
use lib.IntN.{pos}
use Rattle.std.specs.List.{count_by}
use Rattle.geom.specs.Device.{pixel_centre}
use Rattle.geom.specs.Edge.{crosses_at_or_left}
use Rattle.geom.specs.EvenOdd.{is_odd}
use Rattle.scanfill.specs.RowFlips.{is_flipped}
use Rattle.scanfill.proofs.polygon.read_row.Given as goal

abbrev pub invariant-loop-edge : goal.invariant-loop-edge
invariant-loop-edge l = record {
  width : length l.flips ≡ l.width;
  all : (i : ℕ) → i < l.width → is_flipped l.flips i ≡ is_odd (count_by (crosses_at_or_left (pixel_centre (pos i) (pos l.j))) (take l.edge-index l.edges.items));
}
