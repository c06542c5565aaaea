use Rattle.turns.proofs.Order.{joins-then}
use Rattle.turns.proofs.queues.admit.Goals as goal

pub returns-clause-joins : goal.returns-clause-joins
returns-clause-joins c =
    joins-then c.args.ready.now.order c.invite.new.ready.order c.invite-2.new.ready.order c.invite.ensures.joins c.invite-2.ensures.joins
