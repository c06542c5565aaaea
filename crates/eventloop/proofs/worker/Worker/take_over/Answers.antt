use Rattle.eventloop.proofs.Working.{ran-then}
use Rattle.eventloop.specs.Working.{state}
use Rattle.eventloop.proofs.worker.Worker.take_over.Goals as goal

pub returns-clause-run : goal.returns-clause-run
returns-clause-run g c =
    ran-then g.A.Asks.answers g.T.Transport c.args.self.now.now c.find_slot.new.self.now (state c.args.self.now) (state c.find_slot.new.self) (state c.open.new.self)
    c.find_slot.ensures.run c.open.ensures.run c.find_slot.ensures.moments.0
