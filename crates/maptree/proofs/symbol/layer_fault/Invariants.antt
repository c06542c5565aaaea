use Rattle.std.proofs.Common.{◌≡◌, drop}
use Rattle.maptree.specs.Symbol.{first_fault, class_fault, layer_fault}
use Rattle.maptree.proofs.symbol.layer_fault.Given as goal

abbrev pub invariant-loop-class : goal.invariant-loop-class
invariant-loop-class l = first_fault (class_fault l.symbols) (drop l.class-index l.class-items) ≡ layer_fault l.symbols l.layer
