use Rattle.std.proofs.Common.{◌≡◌, ◌≤◌, length}
use Rattle.httpedge.specs.Reckoning.{number_from}
use Rattle.httpedge.specs.declared.reckoning.TheConstants.{MAX_NUMBER}
use Rattle.httpedge.proofs.reckoning.number.Given as goal

abbrev pub invariant-loop-rest : goal.invariant-loop-rest
invariant-loop-rest l = (number_from l.number l.rest ≡ number_from 0 l.fn.value) × (l.number ≤ MAX_NUMBER)

abbrev pub decreases-loop-rest : goal.decreases-loop-rest
decreases-loop-rest l = length l.rest
