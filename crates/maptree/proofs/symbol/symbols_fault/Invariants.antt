use Rattle.std.proofs.Common.{◌≡◌, drop}
use Rattle.maptree.specs.Symbol.{first_fault, layer_fault, symbols_fault}
use Rattle.maptree.proofs.symbol.symbols_fault.Given as goal

abbrev pub invariant-loop-layer : goal.invariant-loop-layer
invariant-loop-layer l = first_fault (layer_fault l.symbols) (drop l.layer-index l.layers) ≡ symbols_fault l.symbols l.layers
