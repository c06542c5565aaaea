use Rattle.turns.proofs.Order.{add-joins}
use Rattle.turns.proofs.queues.invite.Goals as goal

pub returns-in-Some-clause-joins : goal.returns-in-Some-clause-joins
returns-in-Some-clause-joins c = add-joins c.args.ready.now c.add.new.self c.in-Some.slot c.add.ensures.joins c.add.ensures.none
