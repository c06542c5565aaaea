use Rattle.std.proofs.Common.{◌∙◌, ◌++◌, sym, ap, append_assoc, append-nil}
use Rattle.scripts.specs.Transcript.{hex_lines, hex_within}
use Rattle.scripts.proofs.Filling.{lines-cut}
use Rattle.scripts.proofs.Rests.{none-left}
use Rattle.streams.proofs.Sending.{on-err, sent-sent, sent-cut, cut-more}
use Rattle.scripts.proofs.sending.send_hex.Goals as goal

pub returns-in_err-put_all-clause-cut : goal.returns-in_err-put_all-clause-cut
returns-in_err-put_all-clause-cut g c =
    let before = c.loop-rest.invariant in
    rw (← before.all, lines-cut _ _ _ _ c.min.ensures c.split_at.ensures.front c.split_at.ensures.back)
    (on-err c.from_residual.result _ (sent-cut _ _ _ _ _ _ _ before.sent (cut-more _ _ _ _ _ _ (rw c.fill_lines-count.ensures.lines at c.in_err-put_all.ensures.cut))))

pub loop-rest-preserved : goal.loop-rest-preserved
loop-rest-preserved g c =
    let before = c.loop-rest.invariant in
    record {
      text = before.text ++ hex_lines c.split_at.result.0.now;
      all =
          append_assoc before.text _ _
          ∙ ap (λ text. before.text ++ text) (sym (lines-cut _ _ _ _ c.min.ensures c.split_at.ensures.front c.split_at.ensures.back))
          ∙ before.all;
      sent = sent-sent _ _ _ _ _ _ _ before.sent (rw c.fill_lines-count.ensures.lines at c.in_ok-put_all.ensures.sent);
      flag = c.in_ok-put_all.ensures.flag ∙ before.flag;
    }

pub returns-clause-sent : goal.returns-clause-sent
unfolding hex_within
returns-clause-sent g c =
    let before = c.loop-rest.invariant in
    let nothing = none-left _ _ c.is_empty.ensures c.loop-rest-test.false in
    rw (← before.all, nothing, append-nil) before.sent
