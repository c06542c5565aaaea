use Rattle.std.proofs.Common.{◌≡◌, ◌+◌, ◌*◌, ◌≤◌, drop}
use Rattle.subcommands.specs.Summary.{feature_count}
use Rattle.subcommands.proofs.map_summary.feature_count.Given as goal

-- the features so far and those of the layers that are left are all
abbrev pub invariant-loop-layer : goal.invariant-loop-layer
invariant-loop-layer l = record {
  count : l.count + feature_count (drop l.layer-index l.layers) ≡ feature_count l.layers;
  bound : l.count ≤ 200000 * l.layer-index;
}
