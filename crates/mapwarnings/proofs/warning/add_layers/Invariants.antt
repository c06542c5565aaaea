use Rattle.std.proofs.Common.{◌≡◌, ◌++◌, ◌+◌, drop}
use Rattle.mapwarnings.specs.Warning.{layers_warnings}
use Rattle.mapwarnings.proofs.warning.add_layers.Given as goal

abbrev pub invariant-loop-index : goal.invariant-loop-index
invariant-loop-index l = l.out.items ++ layers_warnings (l.index + 1) (drop l.index l.layers) ≡ l.initial.out.items ++ layers_warnings 1 l.layers
