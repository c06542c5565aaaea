use Rattle.std.proofs.Common.{◌≡◌, ◌∙◌, ◌-◌, ◌+◌, suc, [], sym, arith}
use Rattle.streams.proofs.Sending.{nothing-sent}
use Rattle.httpedge.specs.Serving.{requests_left}
use Rattle.httpedge.specs.declared.conn.TheConstants.{REQUESTS}
use Rattle.httpedge.proofs.Ending.{end-nothing, end-replied}
use Rattle.httpedge.proofs.edge.answer_end.Goals as goal

pub returns-in-None-clause-sent : goal.returns-in-None-clause-sent
returns-in-None-clause-sent g c =
    let conn = c.args.conn.now in
    let left : requests_left conn ≡ suc (REQUESTS - (conn.done + 1)) = omega (arith, c.requires.reading.count) in (
      [],
      nothing-sent g.W.Sink.held g.W.Sink.taken c.args.writer.now,
      rw left (end-nothing g.A.Asks.answers (REQUESTS - (conn.done + 1)) conn.progress c.end.new.self.progress c.args.asks.now c.requires.reading.opened c.end.ensures.ends (sym c.end.ensures.step ∙ c.in-None.is)),
    )

pub returns-in-Ok-clause-sent : goal.returns-in-Ok-clause-sent
returns-in-Ok-clause-sent g c =
    let conn = c.args.conn.now in
    let left : requests_left conn ≡ suc (REQUESTS - (conn.done + 1)) = omega (arith, c.requires.reading.count) in
    let (text, sent, reply) = c.in-Ok.ensures.sent in (
      text,
      sent,
      rw left (end-replied g.A.Asks.answers (REQUESTS - (conn.done + 1)) conn.progress c.end.new.self.progress c.in-Some.decision _ c.args.asks.now c.answer.new.asks text c.requires.reading.opened c.end.ensures.ends (sym c.end.ensures.step ∙ c.in-Some.is) reply).0,
    )

pub returns-in-Err-clause-cut : goal.returns-in-Err-clause-cut
returns-in-Err-clause-cut g c =
    let conn = c.args.conn.now in
    let left : requests_left conn ≡ suc (REQUESTS - (conn.done + 1)) = omega (arith, c.requires.reading.count) in
    let (text, cut, reply) = c.in-Err.ensures.cut in (
      text,
      cut,
      rw left (end-replied g.A.Asks.answers (REQUESTS - (conn.done + 1)) conn.progress c.end.new.self.progress c.in-Some.decision _ c.args.asks.now c.answer.new.asks text c.requires.reading.opened c.end.ensures.ends (sym c.end.ensures.step ∙ c.in-Some.is) reply).1,
    )
