use Rattle.std.proofs.Common.{◌≡◌, ◌++◌, ◌+◌, drop}
use Rattle.mapwarnings.specs.Bitmap.{numbered_fonts}
use Rattle.mapwarnings.proofs.bitmap.add_numbered.Given as goal

abbrev pub invariant-loop-index : goal.invariant-loop-index
invariant-loop-index l = l.out.items ++ numbered_fonts l.factor (l.index + 1) (drop l.index l.fonts) ≡ l.initial.out.items ++ numbered_fonts l.factor 1 l.fonts
