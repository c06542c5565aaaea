use Rattle.std.proofs.Common.{◌∙◌, List, ℕ, subst}
use Rattle.streams.specs.Sent.{IsCutSomewhere, IsSent}
use Rattle.streams.proofs.Sending.{on-err, sent-sent}
use Rattle.administration.specs.Serving.{lines_of}
use Rattle.administration.specs.declared.done.Done.{Done}
use Rattle.administration.proofs.Groups.{lines-cut, lines-more}
use Rattle.administration.proofs.results.send_results.Goals as goal

pub returns-in_err-send_line-clause-cut : goal.returns-in_err-send_line-clause-cut
returns-in_err-send_line-clause-cut g c =
    on-err c.from_residual.result _
    (subst (λ (r : List Done). IsCutSomewhere g.O.Sink.held g.O.Sink.taken c.args.writer.now (lines_of r) c.send_line.new.writer) c.as_slice-done-items.ensures
    (lines-cut _ _ _ c.loop-done.writer _ c.as_slice-done-items.result.now c.loop-done.done-index _ c.loop-done-test.true c.loop-done.invariant.sent c.in_err-send_line.ensures.cut))

pub loop-done-preserved : goal.loop-done-preserved
loop-done-preserved g c =
    let before = c.loop-done.invariant in
    record {
      sent = subst (λ (l : List ℕ). IsSent g.O.Sink.held g.O.Sink.taken c.args.writer.now l c.send_line.new.writer)
          (lines-more c.as_slice-done-items.result.now c.loop-done.done-index _ c.loop-done-test.true) (sent-sent _ _ _ c.loop-done.writer _ _ _ before.sent c.in_ok-send_line.ensures.sent);
      flag = c.in_ok-send_line.ensures.flag ∙ before.flag;
    }
