use Rattle.std.specs.Prelude.{ℕ, List}
use Rattle.journal_tests.proofs.starts.keep_each.Given as goal

-- the keeper keeps some batches
abbrev pub invariant-loop-batch : goal.invariant-loop-batch
invariant-loop-batch g l = (kept : List (List ℕ)) × g.K.Keeps.keeps l.keeper kept
