use Rattle.std.proofs.Common.{inr}
use Rattle.eventloop.proofs.Working.{opens-run}
use Rattle.eventloop.proofs.worker.Worker.open.Goals as goal

pub returns-in-Ok-clause-run : goal.returns-in-Ok-clause-run
returns-in-Ok-clause-run g c =
    opens-run g.A.Asks.answers g.T.Transport c.args.self.now.now c.args.slot c.in-Ok.connection c.args.self.now.table c.open.new.self c.args.self.now.asks (record { session = c.in-Ok.ensures.session; buffer = c.in-Ok.ensures.buffer })
    c.requires.free c.open.ensures.here c.open.ensures.others c.open.ensures.ready c.open.ensures.goes

pub returns-in-Ok-clause-opened : goal.returns-in-Ok-clause-opened
returns-in-Ok-clause-opened g c = inr (c.in-Ok.connection, c.open.ensures.here, c.in-Ok.ensures.phase)
