use Rattle.std.proofs.Common.{◌≡◌, ◌∙◌, ◌++◌, ℕ, List, [], take, drop, inl, inr, refl, sym, ap, subst, append_assoc, arith}
use Rattle.streams.proofs.Sending.{nothing-sent, sent-sent, sent-cut, on-err}
use Rattle.httpedge.specs.Exchange.{IsExchange, IsBegun}
use Rattle.httpedge.specs.Serving.{came_of, requests_left}
use Rattle.httpedge.proofs.Courses.{none-by, more-came, next-came, last-came, broken-came, piece-parts, prefix-grows}
use Rattle.httpedge.proofs.Serving.{come-first}
use Rattle.httpedge.proofs.edge.answer_piece.Goals as goal

pub loop-decision-init : goal.loop-decision-init
loop-decision-init g c = record {
  prefix = [];
  text = [];
  all = refl;
  reading = c.requires.reading;
  come = come-first g.A.Asks.answers (requests_left c.args.conn.now) (came_of c.args.conn.now.progress) c.args.asks.now;
  sent = nothing-sent g.W.Sink.held g.W.Sink.taken c.args.writer.now;
  less = inl (refl, refl);
  flag = refl;
}

pub returns-in_default-clause-serves : goal.returns-in_default-clause-serves
returns-in_default-clause-serves g c =
    let before = c.loop-decision.invariant in
    let fed = c.feed-fed.ensures in
    let came0 = came_of c.args.conn.now.progress in
    let (opened, come) = more-came g.A.Asks.answers (requests_left c.args.conn.now) (requests_left c.loop-decision.conn) (came0 ++ before.prefix) before.text c.loop-decision.rest.now c.args.asks.now c.loop-decision.asks
    c.loop-decision.conn.progress c.feed-fed.new.self.progress c.feed-fed.result.taken before.reading.opened fed.feeds (sym fed.step ∙ none-by _ c.in_default.not-Some) before.come in
    let all : (came0 ++ before.prefix) ++ c.loop-decision.rest.now ≡ came0 ++ c.args.piece.now = append_assoc came0 before.prefix c.loop-decision.rest.now ∙ ap (λ l. came0 ++ l) before.all in
    (before.text, before.sent, (record { count = rw fed.done before.reading.count; opened = opened }, rw (fed.done, ← all) come))

pub returns-in_err-answer-clause-cut : goal.returns-in_err-answer-clause-cut
returns-in_err-answer-clause-cut g c =
    let before = c.loop-decision.invariant in
    let fed = c.feed-fed.ensures in
    let rest = c.loop-decision.rest.now in
    let (reply, cut, replies) = c.in_err-answer.ensures.cut in
    let came0 = came_of c.args.conn.now.progress in
    let begun = broken-came g.A.Asks.answers (requests_left c.args.conn.now) (came0 ++ before.prefix) before.text rest reply c.args.asks.now c.loop-decision.asks c.answer.new.asks
    c.loop-decision.conn c.feed-fed.new.self c.feed-fed.result.taken c.in-Some.decision before.reading fed.feeds fed.done (sym fed.step ∙ c.in-Some.is) replies before.come in
    on-err c.from_residual.result _ (
      before.text ++ reply,
      sent-cut _ _ _ _ _ _ _ before.sent cut,
      λ more. subst (λ (l : List ℕ). IsBegun g.A.Asks.answers (requests_left c.args.conn.now) l c.args.asks.now (before.text ++ reply) c.answer.new.asks)
          (piece-parts came0 before.prefix rest c.args.piece.now more c.feed-fed.result.taken before.all) (begun (drop c.feed-fed.result.taken rest ++ more)),
    )

pub returns-then-not-branch-clause-serves : goal.returns-then-not-branch-clause-serves
returns-then-not-branch-clause-serves g c =
    let before = c.loop-decision.invariant in
    let fed = c.feed-fed.ensures in
    let rest = c.loop-decision.rest.now in
    let (reply, sent, replies) = c.in_ok-answer.ensures.sent in
    let came0 = came_of c.args.conn.now.progress in
    let all = last-came g.A.Asks.answers (requests_left c.args.conn.now) (came0 ++ before.prefix) before.text rest reply c.args.asks.now c.loop-decision.asks c.answer.new.asks
    c.loop-decision.conn c.feed-fed.new.self c.feed-fed.result.taken c.in-Some.decision _ before.reading fed.feeds fed.done (sym fed.step ∙ c.in-Some.is) replies c.in_ok-answer.ensures.next c.if-not-branch.true before.come in (
      before.text ++ reply,
      sent-sent _ _ _ _ _ _ _ before.sent sent,
      λ more. subst (λ (l : List ℕ). IsExchange g.A.Asks.answers (requests_left c.args.conn.now) l c.args.asks.now (before.text ++ reply) c.answer.new.asks)
          (piece-parts came0 before.prefix rest c.args.piece.now more c.feed-fed.result.taken before.all) (all (drop c.feed-fed.result.taken rest ++ more)),
    )

pub loop-decision-preserved : goal.loop-decision-preserved
loop-decision-preserved g c =
    let before = c.loop-decision.invariant in
    let fed = c.feed-fed.ensures in
    let rest = c.loop-decision.rest.now in
    let (reply, sent, replies) = c.in_ok-answer.ensures.sent in
    let came0 = came_of c.args.conn.now.progress in
    let taken = c.feed-fed.result.taken in
    let (reading, come, less) = next-came g.A.Asks.answers (requests_left c.args.conn.now) (came0 ++ before.prefix) before.text rest reply c.args.asks.now c.loop-decision.asks c.answer.new.asks
    c.loop-decision.conn c.feed-fed.new.self c.answer.new.conn taken c.in-Some.decision _ before.reading fed.feeds fed.done (sym fed.step ∙ c.in-Some.is) replies c.in_ok-answer.ensures.next c.if-not-branch.false c.in_ok-answer.ensures.forgets before.come in
    record {
      prefix = before.prefix ++ take taken rest;
      text = before.text ++ reply;
      all = rw (c.split_at.ensures.back) (prefix-grows before.prefix rest c.args.piece.now taken before.all);
      reading = reading;
      come = rw (← append_assoc came0 before.prefix (take taken rest)) come;
      sent = sent-sent _ _ _ _ _ _ _ before.sent sent;
      less = inr (elim before.less [
        | inl same ↦ omega (arith, same.1, less)
        | inr still ↦ omega (arith, still, less)
      ]);
      flag = c.in_ok-answer.ensures.flag ∙ before.flag;
    }
