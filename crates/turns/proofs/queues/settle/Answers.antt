use Rattle.turns.proofs.Order.{add-joins}
use Rattle.turns.proofs.queues.settle.Goals as goal

pub returns-in-Some-Turn-clause-joins : goal.returns-in-Some-Turn-clause-joins
returns-in-Some-Turn-clause-joins c = add-joins c.args.ready.now c.add.new.self c.args.slot c.add.ensures.joins c.add.ensures.none
