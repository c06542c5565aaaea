use Rattle.std.proofs.Common.{◌≡◌, take}
use Rattle.layers.specs.Values.{columns_of}
use Rattle.layers.proofs.values.columns_of.Given as goal

abbrev pub invariant-loop-item : goal.invariant-loop-item
invariant-loop-item l = l.found.items ≡ columns_of l.columns (take l.item-index l.items)
