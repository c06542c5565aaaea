use Rattle.std.proofs.Common.{◌∙◌, ◌++◌, List, ℕ, ap, subst, append-nil}
use Rattle.std.proofs.lemmas.Result.{on_ok_weaker, on_err_weaker}
use Rattle.streams.specs.Sent.{IsCutSomewhere}
use Rattle.streams.proofs.Sending.{sent-sent, sent-cut}
use Rattle.streams.proofs.putting.put_piece.Goals as goal

pub returns-clause-sent : goal.returns-clause-sent
returns-clause-sent g c =
    let gathered = c.as_slice.result.now in
    let rest = c.fill-rest.result.now in
    on_ok_weaker c.put_all-2.result
    (λ sent. (
      gathered ++ rest,
      sent-sent _ _ _ _ _ _ _ c.in_ok-put_all.ensures.sent sent,
      ap (λ l. (gathered ++ rest) ++ l) c.clear.ensures ∙ append-nil (gathered ++ rest) ∙ ap (λ l. l ++ rest) c.as_slice.ensures ∙ c.fill-rest.ensures,
    ))
    c.put_all-2.ensures.sent

pub returns-clause-cut : goal.returns-clause-cut
returns-clause-cut g c =
    let rest = c.fill-rest.result.now in
    on_err_weaker c.put_all-2.result
    (λ cut. subst (λ (l : List ℕ). IsCutSomewhere g.S.Sink.held g.S.Sink.taken c.args.sink.now l c.put_all-2.new.sink) (ap (λ l. l ++ rest) c.as_slice.ensures ∙ c.fill-rest.ensures)
    (sent-cut _ _ _ _ _ _ _ c.in_ok-put_all.ensures.sent cut))
    c.put_all-2.ensures.cut
