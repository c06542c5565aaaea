use Rattle.std.proofs.Common.{◌≡◌, ◌++◌, length}
use Rattle.symbols.specs.Format.{colours_of}
use Rattle.symbols.proofs.pixels.colours.Given as goal

abbrev pub invariant-loop-rest : goal.invariant-loop-rest
invariant-loop-rest l = l.colours.items ++ colours_of l.rest ≡ colours_of l.bytes

abbrev pub decreases-loop-rest : goal.decreases-loop-rest
decreases-loop-rest l = length l.rest
