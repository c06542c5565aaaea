use Rattle.std.proofs.Common.{refl, rules}
use Rattle.turns.proofs.Lines.{room-waits}
use Rattle.turns.proofs.Order.{served-joins, joins-then}
use Rattle.turns.proofs.Runs.{ends-later, none-by, own-by, own-terms, run-step, turned-asks, unasked-by}
use Rattle.turns.specs.Runs.{Serves}
use Rattle.turns.specs.Table.{terms_at}
use Rattle.turns.proofs.table.ConnectionTable.serve_next.Goals as goal

pub returns-clause-first : goal.returns-clause-first
returns-clause-first g c =
    rw c.of-served.ensures.slot (served-joins c.args.self.now.ready.order c.next.new.self.order c.admit.new.ready.order c.in_ok-slot.slot c.in_ok-slot.ensures.first
    (joins-then c.next.new.self.order c.settle.new.ready.order c.admit.new.ready.order c.settle.ensures.joins c.admit.ensures.joins))

pub returns-clause-waits : goal.returns-clause-waits
returns-clause-waits g c = λ next.
    rw c.of-served.ensures.slot (room-waits c.of-served.result.next _ c.waits_for-waits.result c.in_ok-slot.slot c.may_be_asked-may_ask.result c.args.self.now.waiting.small.order c.args.self.now.waiting.large.order _ _
    c.waits_for-waits.ensures c.settle-2.ensures.small c.settle-2.ensures.large next)

pub returns-clause-small : goal.returns-clause-small
returns-clause-small g c = rw c.of-served.ensures.slot (search rules)

pub returns-clause-large : goal.returns-clause-large
returns-clause-large g c = rw c.of-served.ensures.slot (search rules)

pub returns-clause-step : goal.returns-clause-step
returns-clause-step g c =
    let (rest, slots, first, later) = returns-clause-first g c in
    let turned = c.turn-turned in
    let served = c.of-served.ensures in
    let slot = served.slot in
    record {
      rest = rest;
      slots = slots;
      first = first;
      later = later;
      given = refl;
      own = rw (slot, served.next, served.ended) (own-by g.A.Asks.answers g.T.Transport (λ ended. terms_at c.args.self.now c.in_ok-slot.slot ended) c.args.now _ _ turned.result
          (own-terms g.A.Asks.answers g.T.Transport _ c.args.self.now c.in_ok-slot.slot _ _ turned.result c.may_be_asked-may_ask.ensures.value turned.ensures.own));
      nobody = rw served.next (none-by _ turned.result turned.ensures.nobody);
      empty = rw (slot, served.next) (none-by _ turned.result turned.ensures.empty);
      others = rw slot turned.ensures.others;
      ends = rw served.ended (ends-later c.args.now turned.result turned.ensures.later);
      unasked = rw (served.asked, served.ended) (unasked-by c.args.now _ turned.result turned.ensures.unasked (search rules));
      turns = rw slot (search rules);
      waits = returns-clause-waits g c;
      keeps = search rules;
      small = returns-clause-small g c;
      large = returns-clause-large g c;
    }

pub returns-clause-once : goal.returns-clause-once
returns-clause-once g c =
    turned-asks g.A.Asks.answers g.T.Transport _ _ _ (returns-clause-step g c)

pub returns-clause-run : goal.returns-clause-run
returns-clause-run g c =
    run-step g.A.Asks.answers g.T.Transport (Serves _) _ _ (returns-clause-step g c)

pub returns-clause-unasked : goal.returns-clause-unasked
returns-clause-unasked g c = (returns-clause-step g c).unasked
