use Rattle.std.proofs.Common.{refl}
use Rattle.eventloop.proofs.Working.{gave-way-run, unneeded}
use Rattle.turns.specs.declared.pressure.Pressure.TheVariants.{Slot}
use Rattle.eventloop.proofs.worker.Worker.find_slot.Goals as goal

pub returns-in_err-closed-clause-run : goal.returns-in_err-closed-clause-run
returns-in_err-closed-clause-run g c = gave-way-run g.A.Asks.answers g.T.Transport c.args.self.now.now (Slot c.args.self.now.now) c.args.self.now.table c.close_for_slot.new.self c.args.self.now.asks c.close_for_slot.result refl c.close_for_slot.ensures.first (unneeded c.close_for_slot.result) c.close_for_slot.ensures.left c.close_for_slot.ensures.goes

pub returns-clause-run : goal.returns-clause-run
returns-clause-run g c = gave-way-run g.A.Asks.answers g.T.Transport c.args.self.now.now (Slot c.args.self.now.now) c.args.self.now.table c.close_for_slot.new.self c.args.self.now.asks c.close_for_slot.result refl c.close_for_slot.ensures.first (unneeded c.close_for_slot.result) c.close_for_slot.ensures.left c.close_for_slot.ensures.goes
