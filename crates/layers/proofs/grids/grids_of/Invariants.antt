use Rattle.std.proofs.Common.{◌≡◌, map, take}
use Rattle.layers.specs.Boxes.{boxes_of}
use Rattle.layers.proofs.grids.grids_of.Given as goal

abbrev pub invariant-loop-layer : goal.invariant-loop-layer
invariant-loop-layer l = l.grids.items ≡ map boxes_of (take l.layer-index l.layers)
