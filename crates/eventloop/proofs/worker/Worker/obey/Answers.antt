use Rattle.eventloop.proofs.Working.{obeyed-run}
use Rattle.turns.specs.declared.pressure.Pressure.TheVariants.{Slot}
use Rattle.eventloop.proofs.worker.Worker.obey.Goals as goal

pub returns-in-Some-clause-run : goal.returns-in-Some-clause-run
returns-in-Some-clause-run g c = obeyed-run g.A.Asks.answers g.T.Transport (Slot c.args.self.now.now) c.args.self.now.table c.obey-ending.new.table c.args.self.now.asks c.args.orders.is_pressed c.obey-ending.ensures.pressed

pub returns-in_default-clause-run : goal.returns-in_default-clause-run
returns-in_default-clause-run g c = obeyed-run g.A.Asks.answers g.T.Transport (Slot c.args.self.now.now) c.args.self.now.table c.obey-ending.new.table c.args.self.now.asks c.args.orders.is_pressed c.obey-ending.ensures.pressed
