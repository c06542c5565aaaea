use Rattle.eventloop.proofs.Working.{overdue-run}
use Rattle.eventloop.proofs.worker.Worker.close_overdue.Goals as goal

pub returns-in-Some-early_end-clause-run : goal.returns-in-Some-early_end-clause-run
returns-in-Some-early_end-clause-run g c = overdue-run g.A.Asks.answers g.T.Transport c.args.slot c.args.self.now.now c.args.self.now.table c.close_overdue.new.self c.args.self.now.asks c.close_overdue.result c.close_overdue.ensures.overdue c.close_overdue.ensures.due c.close_overdue.ensures.left c.close_overdue.ensures.goes

pub returns-in_default-clause-run : goal.returns-in_default-clause-run
returns-in_default-clause-run g c = overdue-run g.A.Asks.answers g.T.Transport c.args.slot c.args.self.now.now c.args.self.now.table c.close_overdue.new.self c.args.self.now.asks c.close_overdue.result c.close_overdue.ensures.overdue c.close_overdue.ensures.due c.close_overdue.ensures.left c.close_overdue.ensures.goes
