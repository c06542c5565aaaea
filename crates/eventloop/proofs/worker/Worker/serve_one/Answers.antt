use Rattle.std.proofs.Common.{◌∙◌, sym, subst}
use Rattle.eventloop.proofs.Working.{turn-turned}
use Rattle.httpedge.specs.Session.{HasAsked}
use Rattle.eventloop.specs.Working.{state}
use Rattle.turns.specs.Table.{given_at}
use Rattle.eventloop.proofs.worker.Worker.serve_one.Goals as goal

pub returns-clause-turn : goal.returns-clause-turn
returns-clause-turn g c =
    turn-turned g.A.Asks.answers g.T.Transport (record { slot = c.in_ok-served.served.slot; given = given_at c.args.self.now.table c.in_ok-served.served.slot; next = c.in_ok-served.served.next; asked = c.in_ok-served.served.asked; now = c.args.self.now.now; ended = c.in_ok-served.served.ended }) (state c.args.self.now) (record { table = c.serve_next.new.self; asks = c.serve_next.new.asks }) (state c.leave.new.self) c.in_ok-served.ensures.step c.leave.ensures.run

pub returns-clause-once : goal.returns-clause-once
returns-clause-once g c =
    let (queries, asked) = c.in_ok-served.ensures.once in
    (queries, subst (λ (a : g.row.A.Denot). HasAsked g.A.Asks.answers c.args.self.now.asks queries a) (sym c.leave.ensures.asks) asked)

pub returns-clause-unasked : goal.returns-clause-unasked
returns-clause-unasked g c is = c.leave.ensures.asks ∙ (c.in_ok-served.ensures.unasked is).1
