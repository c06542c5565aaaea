use Rattle.std.proofs.Common.{◌≡◌, ◌++◌}
use Rattle.administration.specs.Keeping.{accepted_results}
use Rattle.administration.proofs.results.Results.add_accepted.Given as goal

-- the results of the batches that are left follow
abbrev pub invariant-loop-left : goal.invariant-loop-left
invariant-loop-left l = l.self ++ accepted_results l.fn.sequence l.left ≡ l.fn.self ++ accepted_results l.fn.sequence l.fn.count
