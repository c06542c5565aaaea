use Rattle.std.proofs.Common.{◌∙◌, ◌<◌, length, sym, arith, None, Some}
use Rattle.std.proofs.lemmas.List.{get_or_read, get_or-set_same}
use Rattle.turns.proofs.slots.Slots.turn.Goals as goal

pub returns-clause-own : goal.returns-clause-own
returns-clause-own g c =
    let below = c.if-slot-len.false in
    let fits : c.args.slot < length c.args.self.now.items.items = omega (arith, below, c.len.ensures) in
    record {
      before = c.in-Some.connection;
      after = c.turn_of-before.new.connection;
      was = sym (get_or_read c.args.self.now.items.items c.args.slot c.index_mut.result.now fits c.index_mut.ensures.value None) ∙ c.in-Some.is;
      is = get_or-set_same c.args.self.now.items.items c.args.slot (Some c.turn_of-before.new.connection) None fits;
      turn = c.turn_of-before.ensures.turn;
    }
