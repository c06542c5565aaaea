use Rattle.std.proofs.Common.{arith, sym, ◌∙◌}
use Rattle.std.specs.Str.Lines.{lines}
use Rattle.bdffont.specs.File.{file_within}
use Rattle.bdffont.proofs.Reading.{reads-next, reads-stop, reads-end}
use Rattle.bdffont.proofs.file.read_lines.Goals as goal

pub returns-in-Err-clause-error : goal.returns-in-Err-clause-error
returns-in-Err-clause-error c =
    rw c.error_on.ensures (reads-stop c.loop-text.state c.in-Err.stop c.loop-text.line c.in-Some.text.now (lines c.in-Some.after.now) (lines c.loop-text.rest.now)
    (file_within c.args.most c.args.bytes.now) c.loop-text.invariant.same c.in-Some.ensures.lines c.in-Err.ensures.stop)

pub loop-text-preserved : goal.loop-text-preserved
loop-text-preserved c = record {
  same = sym (reads-next c.loop-text.state c.in-Ok.next c.loop-text.line c.in-Some.text.now _ _ c.in-Some.ensures.lines c.in-Ok.ensures.state) ∙ c.loop-text.invariant.same;
  room = omega (arith, c.in-Some.ensures.shorter);
}

pub returns-in-Ok-at_end-clause-file : goal.returns-in-Ok-at_end-clause-file
returns-in-Ok-at_end-clause-file c =
    sym c.loop-text.invariant.same ∙ reads-end c.loop-text.state c.loop-text.line _ c.in_default.ensures.lines ∙ sym c.at_end.ensures ∙ c.in-Ok-at_end.is

pub returns-in-Err-at_end-clause-error : goal.returns-in-Err-at_end-clause-error
returns-in-Err-at_end-clause-error c =
    sym c.loop-text.invariant.same ∙ reads-end c.loop-text.state c.loop-text.line _ c.in_default.ensures.lines ∙ sym c.at_end.ensures ∙ c.in-Err-at_end.is
