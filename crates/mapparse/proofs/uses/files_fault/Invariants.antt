use Rattle.std.proofs.Common.{◌≡◌, drop}
use Rattle.maptree.specs.Symbol.{first_fault}
use Rattle.mapparse.specs.Uses.{file_fault, files_fault}
use Rattle.mapparse.proofs.uses.files_fault.Given as goal

abbrev pub invariant-loop-number : goal.invariant-loop-number
invariant-loop-number l = first_fault (file_fault l.files l.tree) (drop l.number l.first-items) ≡ files_fault l.files l.tree
