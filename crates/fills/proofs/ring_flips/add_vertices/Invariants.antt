use Rattle.std.proofs.Common.{◌≡◌, drop, map}
use Rattle.viewport.specs.View.{device_point}
use Rattle.fills.specs.Flipped.{IsRun}
use Rattle.vertices.specs.Chain.{chain_edges, chain_end}
use Rattle.fills.proofs.Flipping.{IsLeft}
use Rattle.fills.proofs.ring_flips.add_vertices.Given as goal

abbrev pub invariant-loop-to : goal.invariant-loop-to
invariant-loop-to l = record {
  sides : l.flips ≡ record l.fn.flips { flips = l.flips.flips };
  end : chain_end l.run.from (drop l.to-index l.block) ≡ chain_end l.fn.run.from l.fn.block;
  left : IsLeft l.rows l.fn.flips.flips l.flips.flips
      (chain_edges (device_point l.rows l.fn.run.from) (map (device_point l.rows) l.fn.block))
      (chain_edges (device_point l.rows l.run.from) (map (device_point l.rows) (drop l.to-index l.block)));
  valid : IsRun l.rows l.run;
}
