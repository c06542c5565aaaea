use Rattle.std.proofs.Common.{◌∙◌, sym, refl}
use Rattle.administration.proofs.Steps.{came-to-end, came-to-malformed, came-to-stop, known-err, known-match, known-none, known-ok, nothing-came, one-more}
use Rattle.administration.proofs.serving.administer.Goals as goal

pub loop-init : goal.loop-init
loop-init g c = record { can_next = tt; is_finite = tt; come = nothing-came _ _ _; flag = refl }

pub returns-in_default-clause-served : goal.returns-in_default-clause-served
returns-in_default-clause-served g c =
    let (piece, ended, none) = known-none c.read_command.result _ _ c.in_default.not-Some c.read_command.ensures in
    came-to-end _ _ _ _ _ _ c.loop.invariant.come _ piece ended none

pub returns-then-is_err-clause-stopped : goal.returns-then-is_err-clause-stopped
returns-then-is_err-clause-stopped g c =
    let (piece, command, came, is, held) = c.in-Some-read_command.ensures in
    let cut = known-err c.send_line.result _ (sym c.is_err.ensures.value ∙ c.if-is_err.true) c.send_line.ensures.cut in
    came-to-stop _ _ _ _ _ _ c.loop.invariant.come _ _ _ piece command _ came is (c.perform-after.ensures command held) cut

pub returns-then-ends-clause-served : goal.returns-then-ends-clause-served
returns-then-ends-clause-served g c =
    let (piece, command, came, is, held) = c.in-Some-read_command.ensures in
    let sent = known-ok c.send_line.result _ (sym c.is_err.ensures.value ∙ c.if-is_err.false) c.send_line.ensures.sent in
    came-to-malformed _ _ _ _ _ _ c.loop.invariant.come _ _ _ piece command _ came is (c.perform-after.ensures command held) (sym c.ends.ensures ∙ c.if-ends.true) sent

pub loop-preserved : goal.loop-preserved
loop-preserved g c =
    let (piece, command, came, is, held) = c.in-Some-read_command.ensures in
    let ok = sym c.is_err.ensures.value ∙ c.if-is_err.false in
    let sent = known-ok c.send_line.result _ ok c.send_line.ensures.sent in
    record {
      can_next = tt;
      is_finite = tt;
      come = one-more _ _ _ _ _ _ c.loop.invariant.come _ _ _ piece command _ came is (c.perform-after.ensures command held) (sym c.ends.ensures ∙ c.if-ends.false) sent;
      flag = known-match c.send_line.result _ _ _ ok (λ x same. same) c.send_line.ensures.flag ∙ c.loop.invariant.flag;
    }
