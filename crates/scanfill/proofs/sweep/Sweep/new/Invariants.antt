use Rattle.std.proofs.Common.{◌≡◌, ◌<◌, ◌+◌, ◌*◌, ◌-◌, ◌^◌, ℕ, min, take}
use Rattle.std.specs.List.{All, count_by}
use lib.IntN.{pos}
use Rattle.geom.specs.Device.{pixel_centre}
use Rattle.geom.specs.Edge.{crosses_at_or_left}
use Rattle.scanfill.specs.Crossing.{end_of, reaches, row_of}
use Rattle.scanfill.specs.Sweep.{walk_count}
use Rattle.scanfill.proofs.sweep.Sweep.new.Given as goal

abbrev pub invariant-loop-edge : goal.invariant-loop-edge
invariant-loop-edge l = record {
  some : All (λ c. row_of c < end_of c) l.crossings.items;
  counts : (i j : ℕ) → i < l.width → j < l.height →
      count_by (reaches i j) l.crossings.items ≡ count_by (crosses_at_or_left (pixel_centre (pos i) (pos j))) (take l.edge-index l.edges.items);
  work : l.work ≡ record { divisions = min (l.fn.before.divisions + 2 * walk_count (take l.edge-index l.edges.items) l.width l.height) (2 ^ 64 - 1) };
}
