use Rattle.std.proofs.Common.{◌∙◌, ◌-◌, ◌+◌, List, ℕ, inr, sym, subst}
use Rattle.streams.specs.Sent.{IsCutSomewhere, IsSent}
use Rattle.streams.proofs.Sending.{cut-more, sent-cut, sent-sent}
use Rattle.administration.specs.Keeping.{failed_lines}
use Rattle.administration.specs.Serving.{lines_of}
use Rattle.administration.proofs.Groups.{reported-all, reported-more}
use Rattle.administration.proofs.Steps.{known-err, known-ok}
use Rattle.administration.proofs.keeping.send_failures.Goals as goal

pub returns-then-is_err-2 : goal.returns-then-is_err-2
returns-then-is_err-2 g c =
    let lines = lines_of c.args.results.now in
    let cut = known-err c.put_all.result _ (sym c.is_err-in-loop.ensures.value ∙ c.if-is_err-2.true) c.put_all.ensures.cut in
    inr (subst (λ (l : List ℕ). IsCutSomewhere g.O.Sink.held g.O.Sink.taken c.args.writer.now l c.put_all.new.sink) (reported-all lines c.loop.counter c.args.failed c.loop-test.true)
    (cut-more _ _ _ _ _ (failed_lines (c.args.failed - (c.loop.counter + 1))) (sent-cut _ _ _ c.loop.writer _ _ _ c.loop.invariant cut)))

pub loop-preserved : goal.loop-preserved
loop-preserved g c =
    let lines = lines_of c.args.results.now in
    let sent = known-ok c.put_all.result _ (sym c.is_err-in-loop.ensures.value ∙ c.if-is_err-2.false) c.put_all.ensures.sent in
    subst (λ (l : List ℕ). IsSent g.O.Sink.held g.O.Sink.taken c.args.writer.now l c.put_all.new.sink) (reported-more lines c.loop.counter) (sent-sent _ _ _ c.loop.writer _ _ _ c.loop.invariant sent)
