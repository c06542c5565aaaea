use Rattle.std.proofs.Common.{◌≡◌}
use Rattle.service.proofs.HandingOver.{AreHanded}
use Rattle.service.proofs.clients.accept_all.Given as goal

-- the connections that came so far were handed over, and the threads are as they were
abbrev pub invariant-loop : goal.invariant-loop
invariant-loop g l = record {
  handed : AreHanded (g.P.Port.log l.fn.port.port.port) (g.P.Port.log l.port.port.port) l.fn.port.remaining l.port.remaining l.fn.workers.count l.workers.count;
  threads : l.workers.threads ≡ l.fn.workers.threads;
}
