use Rattle.std.proofs.lemmas.Result.{on_err_weaker}
use Rattle.streams.proofs.Sending.{on-err, cut-more, sent-cut}
use Rattle.scripts.proofs.sending.send_answer.Goals as goal

pub returns-clause-cut : goal.returns-clause-cut
returns-clause-cut g c =
    on_err_weaker c.send_body.result
    (λ p. sent-cut _ _ _ _ _ _ _ c.in_ok-send_answer_line.ensures.sent (rw c.as_slice.ensures at p))
    c.send_body.ensures.cut

pub returns-in_err-send_answer_line-clause-cut : goal.returns-in_err-send_answer_line-clause-cut
returns-in_err-send_answer_line-clause-cut g c = on-err _ _ (cut-more _ _ _ _ _ _ c.in_err-send_answer_line.ensures.cut)
