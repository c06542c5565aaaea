use Rattle.std.proofs.Common.{refl}
use Rattle.turns.proofs.Order.{add-joins}
use Rattle.turns.proofs.table.ConnectionTable.wake.Goals as goal

pub returns-clause-goes : goal.returns-clause-goes
returns-clause-goes g c = record {
  keeps = record { timeouts = refl; room = refl };
  small = refl;
  large = refl;
  joins = add-joins c.args.self.now.ready c.add.new.self c.args.slot c.add.ensures.joins c.add.ensures.none;
}
