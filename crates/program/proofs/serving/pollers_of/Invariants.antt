use Rattle.std.proofs.Common.{◌≡◌}
use Rattle.std.specs.Vec.{vec_len}
use Rattle.program.proofs.serving.pollers_of.Given as goal

-- there is a poller for each worker so far
abbrev pub invariant-loop : goal.invariant-loop
invariant-loop g l = vec_len l.pollers ≡ l.counter
