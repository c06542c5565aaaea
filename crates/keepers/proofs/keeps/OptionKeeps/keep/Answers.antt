use Rattle.std.proofs.Common.{ℕ, List, Some, subst, sym}
use Rattle.std.specs.Prelude.{Option}
use Rattle.journal.specs.Texts.{texts_of}
use Rattle.keepers.specs.Crashes.{LeavesOnly, StandsWithFirst}
use Rattle.keepers.specs.Keeping.{keeps_of, left_since_of, moment_of, stands_of}
use Rattle.keepers.proofs.Moments.{of_some}
use Rattle.keepers.proofs.keeps.OptionKeeps.keep.Goals as goal

pub returns-in-Some-clause-any_moment : goal.returns-in-Some-clause-any_moment
returns-in-Some-clause-any_moment g c reliable kept has =
    rw c.in-Some.is (of_some g.K.Keeps.moment g.K.Keeps.left_since c.in-Some.keeper c.keep.new.self _ _ (c.keep.ensures.any_moment reliable kept (rw c.in-Some.is at has)) (λ file stood. stood))
