use Rattle.eventloop.proofs.Working.{wakes-run}
use Rattle.eventloop.proofs.worker.Worker.wait.Goals as goal

pub returns-clause-run : goal.returns-clause-run
returns-clause-run g c = wakes-run g.A.Asks.answers g.T.Transport 0 c.args.self.now.table c.wake_all.new.table c.args.self.now.asks c.wake_all.ensures.connections c.wake_all.ensures.goes
