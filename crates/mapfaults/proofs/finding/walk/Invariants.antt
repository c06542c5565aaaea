use Rattle.std.proofs.Common.{length}
use Rattle.mapfaults.specs.declared.finding.Finding.{Finding}
use Rattle.mapfaults.specs.Explained.{IsWalked, standing}
use Rattle.mapfaults.proofs.finding.walk.Given as goal

abbrev pub invariant-loop-token : goal.invariant-loop-token
invariant-loop-token l =
    (f : Finding) → IsWalked (standing l.walker.openings l.walker.drafts) l.tokens f → IsWalked (standing l.fn.walker.openings l.fn.walker.drafts) l.fn.tokens f

abbrev pub decreases-loop-token : goal.decreases-loop-token
decreases-loop-token l = length l.tokens.tokens
