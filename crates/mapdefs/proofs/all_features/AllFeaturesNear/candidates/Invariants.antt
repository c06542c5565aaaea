use Rattle.std.proofs.Common.{◌≡◌, ◌≤◌}
use Rattle.std.specs.Vec.{vec_capacity, vec_len}
use Rattle.mapdefs.proofs.Counting.{all_below}
use Rattle.mapdefs.proofs.all_features.AllFeaturesNear.candidates.Given as goal

abbrev pub invariant-loop-index : goal.invariant-loop-index
invariant-loop-index l = record {
  items : l.found.items ≡ all_below l.index;
  len : vec_len l.found ≡ l.index;
  room : l.count ≤ vec_capacity l.found;
}
