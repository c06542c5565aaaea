use Rattle.std.proofs.Common.{◌≡◌, ◌∙◌, ◌≤◌, ◌+◌, ◌-◌, ◌++◌, List, ℕ, Vec, Global, length, arith, ap, sym, subst, refl}
use Rattle.std.proofs.lemmas.List.{length-map}
use Rattle.std.specs.Prelude.{Err}
use Rattle.std.specs.Result.{is_err}
use Rattle.journal.specs.Texts.{texts_of}
use Rattle.administration.specs.Keeping.{IsReported, failed_lines}
use Rattle.administration.specs.Reading.{HasNext}
use Rattle.administration.specs.Serving.{AreSubmitted, lines_of}
use Rattle.administration.specs.declared.group.Next.TheVariants as next
use Rattle.administration.proofs.Groups.{failed-counted, group-cut, group-failed, group-more, next-read, other-cut, results-within}
use Rattle.administration.proofs.KeptBatches.{as_kept, more_kept, none_lost, none_lost_as, none_lost_more, same_kept}
use Rattle.administration.proofs.Steps.{came-to-end, came-to-malformed, good-match, known-err, known-good, known-match, known-ok, nothing-came, one-more}
use Rattle.administration.proofs.keeping.administer_kept.Goals as goal

pub loop-init : goal.loop-init
loop-init g c = record {
  can_next = tt;
  is_finite = tt;
  come = nothing-came _ _ _;
  flag = refl;
  ready = c.requires.ready;
  keeps = λ kept was. same_kept g.K.Keeps.keeps c.args.admin c.args.admin kept c.args.keeper.now refl was;
  crash = none_lost g.K.Keeps g.S.Sharing.opening g.met.K.Keeps.stays c.args.admin c.args.keeper.now;
}

pub report-requires : goal.report-requires
report-requires g c =
    let done = c.accept_all-after in
    omega (arith, results-within done.result.2 _ _ _ _ _ done.ensures.done done.ensures.failed, length-map c.as_slice.result.now (λ text. text.items), ap length c.as_slice.ensures.value, c.len.ensures)

pub returns-in-Err-clause-failed : goal.returns-in-Err-clause-failed
returns-in-Err-clause-failed g c cause same =
    let read = c.read_group-batches.ensures.read in
    let texts = texts_of c.read_group-batches.result.batches.items in
    let results = c.accept_all-after.result.1 in
    let (broken, reported) = c.in-Err.ensures.failed cause same in
    let (first, failed, whole, submitted, fails) = known-err c.accept_all-after.result.2 _ (ap is_err broken) c.accept_all-after.ensures.failed in
    let all : texts ≡ first ++ failed = ap texts_of (sym c.as_slice.ensures.value) ∙ whole in
    let counted : length results + length failed ≡ length texts = failed-counted _ _ first failed results _ all submitted in
    let (more, came) = next-read _ _ _ _ read.next in
    let long = length-map c.read_group-batches.result.batches.items (λ text. text.items) in
    let few : length texts ≤ 64 = omega (arith, c.read_group-batches.ensures.few, long) in
    let left : c.len.result - length results ≡ length failed = omega (arith, counted, long, c.len.ensures) in
    group-failed _ _ _ _ _ _ c.loop.invariant.come read.between read.bytes texts read.came read.commands _ more first failed results _ _ came few all submitted fails
    (subst (λ (n : ℕ). IsReported g.O.Sink.held g.O.Sink.taken c.loop.client.writer (lines_of results ++ failed_lines n) c.report.new.writer) left reported)

pub returns-in-Err-clause-stopped : goal.returns-in-Err-clause-stopped
returns-in-Err-clause-stopped g c same =
    let read = c.read_group-batches.ensures.read in
    let (fine, cut) = c.in-Err.ensures.cut same in
    let submitted : AreSubmitted g.S.Sharing.opening c.loop.admin (texts_of c.read_group-batches.result.batches.items) c.accept_all-after.result.1 c.accept_all-after.result.0 =
    subst (λ (l : List (Vec ℕ Global)). AreSubmitted g.S.Sharing.opening c.loop.admin (texts_of l) c.accept_all-after.result.1 c.accept_all-after.result.0) c.as_slice.ensures.value
    (known-ok c.accept_all-after.result.2 _ fine c.accept_all-after.ensures.done) in
    let (more, came) = next-read _ _ _ _ read.next in
    let few : length (texts_of c.read_group-batches.result.batches.items) ≤ 64 = omega (arith, c.read_group-batches.ensures.few, length-map c.read_group-batches.result.batches.items (λ text. text.items)) in
    group-cut _ _ _ _ _ _ c.loop.invariant.come read.between read.bytes (texts_of c.read_group-batches.result.batches.items) read.came read.commands _ more c.accept_all-after.result.1 _ _ came few submitted cut

pub returns-in-Err-clause-kept : goal.returns-in-Err-clause-kept
returns-in-Err-clause-kept g c kept was same =
    let (fine, cut) = c.in-Err.ensures.cut (ap Err same) in
    more_kept g.K.Keeps.keeps c.args.admin c.loop.admin c.accept_all-after.result.0 kept c.loop.keeper c.accept_all-after.new.keeper (c.loop.invariant.keeps kept was)
    (λ now is. known-ok c.accept_all-after.result.2 _ fine (c.accept_all-after.ensures.kept now is))

pub loop-preserved-in-Nothing : goal.loop-preserved-in-Nothing
loop-preserved-in-Nothing g c =
    let read = c.read_group-batches.ensures.read in
    let (ok, sent) = known-good c.report.result _ c.in_default.not-Err c.report.ensures.sent in
    let submitted : AreSubmitted g.S.Sharing.opening c.loop.admin (texts_of c.read_group-batches.result.batches.items) c.accept_all-after.result.1 c.accept_all-after.result.0 =
    subst (λ (l : List (Vec ℕ Global)). AreSubmitted g.S.Sharing.opening c.loop.admin (texts_of l) c.accept_all-after.result.1 c.accept_all-after.result.0) c.as_slice.ensures.value
    (known-ok c.accept_all-after.result.2 _ ok c.accept_all-after.ensures.done) in
    let come = group-more _ _ _ _ _ _ c.loop.invariant.come read.between read.bytes (texts_of c.read_group-batches.result.batches.items) read.came read.commands c.accept_all-after.result.1 _ _ submitted sent in
    let none : HasNext read.between (g.I.Source.left c.read_group-batches.new.reader) (g.I.Source.take_failed c.read_group-batches.new.reader) next.Nothing = rw c.in-Nothing.is at read.next in
    let step = λ (now : List (List ℕ)) (is : g.K.Keeps.keeps c.loop.keeper now). known-ok c.accept_all-after.result.2 _ ok (c.accept_all-after.ensures.kept now is) in
    let (before, has) = c.loop.invariant.ready in
    record {
      can_next = tt;
      is_finite = tt;
      come = rw none come;
      flag = good-match c.report.result _ _ _ c.in_default.not-Err (λ x same. same) c.report.ensures.flag ∙ c.loop.invariant.flag;
      ready = (_, (step before has).2);
      keeps = λ kept was. more_kept g.K.Keeps.keeps c.args.admin c.loop.admin c.accept_all-after.result.0 kept c.loop.keeper c.accept_all-after.new.keeper (c.loop.invariant.keeps kept was) step;
      crash = none_lost_more g.K.Keeps g.S.Sharing.opening c.args.admin c.loop.admin c.accept_all-after.result.0 c.args.keeper.now c.loop.keeper c.accept_all-after.new.keeper c.loop.invariant.crash c.loop.invariant.keeps c.accept_all-after.ensures.crash;
    }

pub returns-in-End-clause-served : goal.returns-in-End-clause-served
returns-in-End-clause-served g c =
    let (ok, sent) = known-good c.report.result _ c.in_default.not-Err c.report.ensures.sent in
    let read = c.read_group-batches.ensures.read in
    let submitted : AreSubmitted g.S.Sharing.opening c.loop.admin (texts_of c.read_group-batches.result.batches.items) c.accept_all-after.result.1 c.accept_all-after.result.0 =
    subst (λ (l : List (Vec ℕ Global)). AreSubmitted g.S.Sharing.opening c.loop.admin (texts_of l) c.accept_all-after.result.1 c.accept_all-after.result.0) c.as_slice.ensures.value
    (known-ok c.accept_all-after.result.2 _ ok c.accept_all-after.ensures.done) in
    let come = group-more _ _ _ _ _ _ c.loop.invariant.come read.between read.bytes (texts_of c.read_group-batches.result.batches.items) read.came read.commands c.accept_all-after.result.1 _ _ submitted sent in
    let end : HasNext read.between (g.I.Source.left c.read_group-batches.new.reader) (g.I.Source.take_failed c.read_group-batches.new.reader) next.End = rw c.in-End.is at read.next in
    let (piece, ended, none) = end in
    came-to-end _ _ _ _ _ _ come _ piece ended none

pub returns-in-End-clause-kept : goal.returns-in-End-clause-kept
returns-in-End-clause-kept g c kept was =
    let (ok, sent) = known-good c.report.result _ c.in_default.not-Err c.report.ensures.sent in
    more_kept g.K.Keeps.keeps c.args.admin c.loop.admin c.accept_all-after.result.0 kept c.loop.keeper c.accept_all-after.new.keeper (c.loop.invariant.keeps kept was)
    (λ now is. known-ok c.accept_all-after.result.2 _ ok (c.accept_all-after.ensures.kept now is))

pub returns-then-is_err-clause-stopped : goal.returns-then-is_err-clause-stopped
returns-then-is_err-clause-stopped g c same =
    let (ok, sent) = known-good c.report.result _ c.in_default.not-Err c.report.ensures.sent in
    let read = c.read_group-batches.ensures.read in
    let submitted : AreSubmitted g.S.Sharing.opening c.loop.admin (texts_of c.read_group-batches.result.batches.items) c.accept_all-after.result.1 c.accept_all-after.result.0 =
    subst (λ (l : List (Vec ℕ Global)). AreSubmitted g.S.Sharing.opening c.loop.admin (texts_of l) c.accept_all-after.result.1 c.accept_all-after.result.0) c.as_slice.ensures.value
    (known-ok c.accept_all-after.result.2 _ ok c.accept_all-after.ensures.done) in
    let come = group-more _ _ _ _ _ _ c.loop.invariant.come read.between read.bytes (texts_of c.read_group-batches.result.batches.items) read.came read.commands c.accept_all-after.result.1 _ _ submitted sent in
    let other : HasNext read.between (g.I.Source.left c.read_group-batches.new.reader) (g.I.Source.take_failed c.read_group-batches.new.reader) (next.Command c.in-Command.other) = rw c.in-Command.is at read.next in
    let (piece, command, came, is, what) = other in
    let cut = known-err c.send_line.result _ (sym c.is_err.ensures.value ∙ c.if-is_err.true) c.send_line.ensures.cut in
    other-cut _ _ _ _ _ _ come _ piece command _ _ _ came is (c.perform_other-after.ensures.done command what) cut

pub returns-then-is_err-clause-kept : goal.returns-then-is_err-clause-kept
returns-then-is_err-clause-kept g c kept was same =
    let (ok, sent) = known-good c.report.result _ c.in_default.not-Err c.report.ensures.sent in
    as_kept g.K.Keeps.keeps c.args.admin c.accept_all-after.result.0 c.perform_other-after.result.0 kept c.accept_all-after.new.keeper c.perform_other-after.ensures.same
    (more_kept g.K.Keeps.keeps c.args.admin c.loop.admin c.accept_all-after.result.0 kept c.loop.keeper c.accept_all-after.new.keeper (c.loop.invariant.keeps kept was)
    (λ now is. known-ok c.accept_all-after.result.2 _ ok (c.accept_all-after.ensures.kept now is)))

pub returns-then-ends-clause-served : goal.returns-then-ends-clause-served
returns-then-ends-clause-served g c =
    let (ok, sent) = known-good c.report.result _ c.in_default.not-Err c.report.ensures.sent in
    let read = c.read_group-batches.ensures.read in
    let submitted : AreSubmitted g.S.Sharing.opening c.loop.admin (texts_of c.read_group-batches.result.batches.items) c.accept_all-after.result.1 c.accept_all-after.result.0 =
    subst (λ (l : List (Vec ℕ Global)). AreSubmitted g.S.Sharing.opening c.loop.admin (texts_of l) c.accept_all-after.result.1 c.accept_all-after.result.0) c.as_slice.ensures.value
    (known-ok c.accept_all-after.result.2 _ ok c.accept_all-after.ensures.done) in
    let come = group-more _ _ _ _ _ _ c.loop.invariant.come read.between read.bytes (texts_of c.read_group-batches.result.batches.items) read.came read.commands c.accept_all-after.result.1 _ _ submitted sent in
    let other : HasNext read.between (g.I.Source.left c.read_group-batches.new.reader) (g.I.Source.take_failed c.read_group-batches.new.reader) (next.Command c.in-Command.other) = rw c.in-Command.is at read.next in
    let (piece, command, came, is, what) = other in
    let line = known-ok c.send_line.result _ (sym c.is_err.ensures.value ∙ c.if-is_err.false) c.send_line.ensures.sent in
    came-to-malformed _ _ _ _ _ _ come _ _ _ piece command _ came is (c.perform_other-after.ensures.done command what) (sym c.ends.ensures ∙ c.if-ends.true) line

pub returns-then-ends-clause-kept : goal.returns-then-ends-clause-kept
returns-then-ends-clause-kept g c kept was =
    let (ok, sent) = known-good c.report.result _ c.in_default.not-Err c.report.ensures.sent in
    as_kept g.K.Keeps.keeps c.args.admin c.accept_all-after.result.0 c.perform_other-after.result.0 kept c.accept_all-after.new.keeper c.perform_other-after.ensures.same
    (more_kept g.K.Keeps.keeps c.args.admin c.loop.admin c.accept_all-after.result.0 kept c.loop.keeper c.accept_all-after.new.keeper (c.loop.invariant.keeps kept was)
    (λ now is. known-ok c.accept_all-after.result.2 _ ok (c.accept_all-after.ensures.kept now is)))

pub loop-preserved : goal.loop-preserved
loop-preserved g c =
    let read = c.read_group-batches.ensures.read in
    let (ok, sent) = known-good c.report.result _ c.in_default.not-Err c.report.ensures.sent in
    let submitted : AreSubmitted g.S.Sharing.opening c.loop.admin (texts_of c.read_group-batches.result.batches.items) c.accept_all-after.result.1 c.accept_all-after.result.0 =
    subst (λ (l : List (Vec ℕ Global)). AreSubmitted g.S.Sharing.opening c.loop.admin (texts_of l) c.accept_all-after.result.1 c.accept_all-after.result.0) c.as_slice.ensures.value
    (known-ok c.accept_all-after.result.2 _ ok c.accept_all-after.ensures.done) in
    let come = group-more _ _ _ _ _ _ c.loop.invariant.come read.between read.bytes (texts_of c.read_group-batches.result.batches.items) read.came read.commands c.accept_all-after.result.1 _ _ submitted sent in
    let other : HasNext read.between (g.I.Source.left c.read_group-batches.new.reader) (g.I.Source.take_failed c.read_group-batches.new.reader) (next.Command c.in-Command.other) = rw c.in-Command.is at read.next in
    let (piece, command, came, is, what) = other in
    let line = sym c.is_err.ensures.value ∙ c.if-is_err.false in
    let last = known-ok c.send_line.result _ line c.send_line.ensures.sent in
    let step = λ (now : List (List ℕ)) (is : g.K.Keeps.keeps c.loop.keeper now). known-ok c.accept_all-after.result.2 _ ok (c.accept_all-after.ensures.kept now is) in
    let (before, has) = c.loop.invariant.ready in
    record {
      can_next = tt;
      is_finite = tt;
      come = one-more _ _ _ _ _ _ come _ _ _ piece command _ came is (c.perform_other-after.ensures.done command what) (sym c.ends.ensures ∙ c.if-ends.false) last;
      flag =
          known-match c.send_line.result _ _ _ line (λ x same. same) c.send_line.ensures.flag
          ∙ (good-match c.report.result _ _ _ c.in_default.not-Err (λ x same. same) c.report.ensures.flag ∙ c.loop.invariant.flag);
      ready = (_, (step before has).2);
      keeps = λ kept was.
          as_kept g.K.Keeps.keeps c.args.admin c.accept_all-after.result.0 c.perform_other-after.result.0 kept c.accept_all-after.new.keeper c.perform_other-after.ensures.same
          (more_kept g.K.Keeps.keeps c.args.admin c.loop.admin c.accept_all-after.result.0 kept c.loop.keeper c.accept_all-after.new.keeper (c.loop.invariant.keeps kept was) step);
      crash =
          none_lost_as g.K.Keeps g.S.Sharing.opening c.args.admin c.accept_all-after.result.0 c.perform_other-after.result.0 c.args.keeper.now c.accept_all-after.new.keeper c.perform_other-after.ensures.same
          (none_lost_more g.K.Keeps g.S.Sharing.opening c.args.admin c.loop.admin c.accept_all-after.result.0 c.args.keeper.now c.loop.keeper c.accept_all-after.new.keeper c.loop.invariant.crash c.loop.invariant.keeps c.accept_all-after.ensures.crash);
    }

pub returns-in-Err-clause-crash : goal.returns-in-Err-clause-crash
returns-in-Err-clause-crash g c =
    none_lost_more g.K.Keeps g.S.Sharing.opening c.args.admin c.loop.admin c.accept_all-after.result.0 c.args.keeper.now c.loop.keeper c.accept_all-after.new.keeper c.loop.invariant.crash c.loop.invariant.keeps c.accept_all-after.ensures.crash

pub returns-in-End-clause-crash : goal.returns-in-End-clause-crash
returns-in-End-clause-crash g c =
    none_lost_more g.K.Keeps g.S.Sharing.opening c.args.admin c.loop.admin c.accept_all-after.result.0 c.args.keeper.now c.loop.keeper c.accept_all-after.new.keeper c.loop.invariant.crash c.loop.invariant.keeps c.accept_all-after.ensures.crash

pub returns-then-is_err-clause-crash : goal.returns-then-is_err-clause-crash
returns-then-is_err-clause-crash g c =
    none_lost_as g.K.Keeps g.S.Sharing.opening c.args.admin c.accept_all-after.result.0 c.perform_other-after.result.0 c.args.keeper.now c.accept_all-after.new.keeper c.perform_other-after.ensures.same
    (none_lost_more g.K.Keeps g.S.Sharing.opening c.args.admin c.loop.admin c.accept_all-after.result.0 c.args.keeper.now c.loop.keeper c.accept_all-after.new.keeper c.loop.invariant.crash c.loop.invariant.keeps c.accept_all-after.ensures.crash)

pub returns-then-ends-clause-crash : goal.returns-then-ends-clause-crash
returns-then-ends-clause-crash g c =
    none_lost_as g.K.Keeps g.S.Sharing.opening c.args.admin c.accept_all-after.result.0 c.perform_other-after.result.0 c.args.keeper.now c.accept_all-after.new.keeper c.perform_other-after.ensures.same
    (none_lost_more g.K.Keeps g.S.Sharing.opening c.args.admin c.loop.admin c.accept_all-after.result.0 c.args.keeper.now c.loop.keeper c.accept_all-after.new.keeper c.loop.invariant.crash c.loop.invariant.keeps c.accept_all-after.ensures.crash)
