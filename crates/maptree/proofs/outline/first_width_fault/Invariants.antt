use Rattle.std.proofs.Common.{◌≡◌, drop}
use Rattle.maptree.specs.Outline.{layer_width_fault}
use Rattle.maptree.specs.Symbol.{first_fault}
use Rattle.maptree.proofs.outline.first_width_fault.Given as goal

abbrev pub invariant-loop-layer : goal.invariant-loop-layer
invariant-loop-layer l = first_fault layer_width_fault (drop l.layer-index l.layers) ≡ first_fault layer_width_fault l.layers
