use Rattle.std.proofs.Common.{◌≡◌, length}
use Rattle.httpedge.specs.Reckoning.{number_of}
use Rattle.httpedge.proofs.reckoning.number_of.Given as goal

abbrev pub invariant-loop-letters : goal.invariant-loop-letters
invariant-loop-letters l = number_of l.letters l.rest ≡ number_of l.fn.name l.fn.text

abbrev pub decreases-loop-letters : goal.decreases-loop-letters
decreases-loop-letters l = length l.letters
