use Rattle.std.proofs.Common.{◌≡◌, drop}
use Rattle.maptree.specs.Outline.{class_width_fault, layer_width_fault}
use Rattle.maptree.specs.Symbol.{first_fault}
use Rattle.maptree.proofs.outline.layer_width_fault.Given as goal

abbrev pub invariant-loop-class : goal.invariant-loop-class
invariant-loop-class l = first_fault class_width_fault (drop l.class-index l.class-items) ≡ layer_width_fault l.layer
