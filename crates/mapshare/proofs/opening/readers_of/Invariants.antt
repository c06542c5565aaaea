use Rattle.std.proofs.Common.{◌≡◌, [], All, length}
use Rattle.mapshare.specs.Reader.{free}
use Rattle.mapshare.proofs.opening.readers_of.Given as goal

abbrev pub invariant-loop : goal.invariant-loop
invariant-loop g l = (length l.readers.items ≡ l.counter) × All (λ reader. reader ≡ free []) l.readers.items
