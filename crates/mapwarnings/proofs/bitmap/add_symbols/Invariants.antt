use Rattle.std.proofs.Common.{◌≡◌, ◌++◌, ◌+◌, drop}
use Rattle.mapwarnings.specs.Bitmap.{small_symbols}
use Rattle.mapwarnings.proofs.bitmap.add_symbols.Given as goal

abbrev pub invariant-loop-index : goal.invariant-loop-index
invariant-loop-index l = l.out.items ++ small_symbols l.factor (l.index + 1) (drop l.index l.symbols) ≡ l.initial.out.items ++ small_symbols l.factor 1 l.symbols
