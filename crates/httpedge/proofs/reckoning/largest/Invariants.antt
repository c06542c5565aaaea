use Rattle.std.proofs.Common.{◌≡◌, ◌≤◌, length}
use Rattle.httpedge.specs.Reckoning.{largest_from}
use Rattle.httpedge.specs.declared.reckoning.TheConstants.{MAX_NUMBER}
use Rattle.httpedge.proofs.reckoning.largest.Given as goal

abbrev pub invariant-loop-rest : goal.invariant-loop-rest
invariant-loop-rest l = (largest_from l.name l.most l.rest ≡ largest_from l.name 0 l.fn.text) × (l.most ≤ MAX_NUMBER)

abbrev pub decreases-loop-rest : goal.decreases-loop-rest
decreases-loop-rest l = length l.rest
