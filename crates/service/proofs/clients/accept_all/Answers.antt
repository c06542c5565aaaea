use Rattle.std.proofs.Common.{[], refl, rules, arith, subst, sym}
use Rattle.network.proofs.Noting.{none-accepted}
use Rattle.service.proofs.HandingOver.{NextCount, all-handed, ends-came, failed-came, next-handed, none-came, one-came, woken}
use Rattle.service.proofs.clients.accept_all.Goals as goal

pub loop-init : goal.loop-init
loop-init g c = record {
  handed = ([], none-accepted (g.P.Port.log c.args.port.now.port.port) c.args.port.now.remaining, omega arith);
  threads = refl;
}

pub returns-then-is_set-clause-accepted : goal.returns-then-is_set-clause-accepted
returns-then-is_set-clause-accepted g c =
    woken c.args.port.now c.loop.port c.accept_next-accepted.new.port (λ p. g.P.Port.log p.port.port) (λ p. p.remaining) c.args.workers.now.count c.loop.workers.count
    c.accept_next-accepted.result c.loop.invariant.handed c.accept_next-accepted.ensures

pub loop-preserved-in-Wait : goal.loop-preserved-in-Wait
loop-preserved-in-Wait g c = record {
  handed = next-handed c.args.port.now c.loop.port c.accept_next-accepted.new.port (λ p. g.P.Port.log p.port.port) (λ p. p.remaining) c.args.workers.now.count c.loop.workers.count c.accept_next-accepted.result c.loop.workers.count c.loop.invariant.handed c.accept_next-accepted.ensures
      (none-came c.loop.acceptor c.follow.new.self c.loop.workers.count c.accept_next-accepted.result c.follow.result c.follow.ensures c.in-Wait.is);
  threads = search rules;
}

pub returns-in-End-clause-accepted : goal.returns-in-End-clause-accepted
returns-in-End-clause-accepted g c =
    all-handed _ _ _ _ _ _
    (next-handed c.args.port.now c.loop.port c.accept_next-accepted.new.port (λ p. g.P.Port.log p.port.port) (λ p. p.remaining) c.args.workers.now.count c.loop.workers.count c.accept_next-accepted.result c.loop.workers.count c.loop.invariant.handed c.accept_next-accepted.ensures
    (ends-came c.loop.acceptor c.follow.new.self c.loop.workers.count c.accept_next-accepted.result c.follow.result c.follow.ensures c.in-End.is))

pub loop-preserved-in-HandOver : goal.loop-preserved-in-HandOver
loop-preserved-in-HandOver g c = record {
  handed = next-handed c.args.port.now c.loop.port c.accept_next-accepted.new.port (λ p. g.P.Port.log p.port.port) (λ p. p.remaining) c.args.workers.now.count c.loop.workers.count c.accept_next-accepted.result c.hand_over.new.self.count c.loop.invariant.handed c.accept_next-accepted.ensures
      (subst (NextCount c.accept_next-accepted.result c.loop.workers.count) (sym c.hand_over.ensures.count)
      (one-came c.loop.acceptor c.follow.new.self c.loop.workers.count c.accept_next-accepted.result c.follow.result c.in-HandOver.connection c.in-HandOver.number c.follow.ensures c.in-HandOver.is));
  threads = search rules;
}

pub returns-then-not-is_serving-clause-accepted : goal.returns-then-not-is_serving-clause-accepted
returns-then-not-is_serving-clause-accepted g c =
    all-handed _ _ _ _ _ _
    (next-handed c.args.port.now c.loop.port c.accept_next-accepted.new.port (λ p. g.P.Port.log p.port.port) (λ p. p.remaining) c.args.workers.now.count c.loop.workers.count c.accept_next-accepted.result c.evict.new.workers.count c.loop.invariant.handed c.accept_next-accepted.ensures
    (subst (NextCount c.accept_next-accepted.result c.loop.workers.count) (sym c.evict.ensures.count)
    (failed-came c.loop.acceptor c.follow.new.self c.loop.workers.count c.accept_next-accepted.result c.follow.result c.in-Evict.eviction c.follow.ensures c.in-Evict.is)))

pub loop-preserved : goal.loop-preserved
loop-preserved g c = record {
  handed = next-handed c.args.port.now c.loop.port c.accept_next-accepted.new.port (λ p. g.P.Port.log p.port.port) (λ p. p.remaining) c.args.workers.now.count c.loop.workers.count c.accept_next-accepted.result c.evict.new.workers.count c.loop.invariant.handed c.accept_next-accepted.ensures
      (subst (NextCount c.accept_next-accepted.result c.loop.workers.count) (sym c.evict.ensures.count)
      (failed-came c.loop.acceptor c.follow.new.self c.loop.workers.count c.accept_next-accepted.result c.follow.result c.in-Evict.eviction c.follow.ensures c.in-Evict.is));
  threads = search rules;
}
