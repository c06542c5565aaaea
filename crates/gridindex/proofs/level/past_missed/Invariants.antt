use Rattle.gridindex.proofs.level.past_missed.Given as goal

abbrev pub invariant-loop-level : goal.invariant-loop-level
invariant-loop-level l = Unit {0}
