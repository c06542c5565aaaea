use Rattle.std.proofs.Common.{◌∙◌, ◌+◌, ◌-◌, ℕ, length, is_some, ap, sym, arith}
use Rattle.maplex.specs.ByteFault.{byte_fault_of, byte_fault_within}
use Rattle.maplex.specs.Position.{start}
use Rattle.maplex.specs.Token.{Stops}
use Rattle.maplex.proofs.ByteFaults.{bad-byte-is-found, none-in-no-step, stops-here}
use Rattle.maplex.proofs.bad_byte.byte_fault.Goals as goal

pub loop-step-preserved : goal.loop-step-preserved
loop-step-preserved c =
    let n : ℕ = length c.args.source.now in
    let q = c.skip_blanks.new.self in
    ap (byte_fault_within (n - (c.loop-step._step + 1))) c.pass.ensures
    ∙ sym (stops-here (n - c.loop-step._step) (n - (c.loop-step._step + 1)) c.loop-step.at q _ (omega (arith, c.loop-step-test.true)) c.skip_blanks.ensures c.in-Ok.ensures.token)
    ∙ c.loop-step.invariant

pub returns-in-Err-clause-fault : goal.returns-in-Err-clause-fault
returns-in-Err-clause-fault c =
    let n : ℕ = length c.args.source.now in
    c.byte_fault_of.ensures
    ∙ ap byte_fault_of c.rest.ensures.rest
    ∙ sym (stops-here (n - c.loop-step._step) (n - (c.loop-step._step + 1)) c.loop-step.at c.skip_blanks.new.self (Stops _) (omega (arith, c.loop-step-test.true)) c.skip_blanks.ensures c.in-Err.ensures.tail)
    ∙ c.loop-step.invariant

pub returns-in-Err-clause-bad_byte : goal.returns-in-Err-clause-bad_byte
returns-in-Err-clause-bad_byte c =
    ap is_some (returns-in-Err-clause-fault c) ∙ bad-byte-is-found (length c.args.source.now) (start c.args.source.now)

pub returns-clause-fault : goal.returns-clause-fault
returns-clause-fault c =
    let n : ℕ = length c.args.source.now in
    sym (none-in-no-step (n - c.loop-step._step) c.loop-step.at (omega (arith, c.loop-step-test.false))) ∙ c.loop-step.invariant

pub returns-clause-bad_byte : goal.returns-clause-bad_byte
returns-clause-bad_byte c =
    ap is_some (returns-clause-fault c) ∙ bad-byte-is-found (length c.args.source.now) (start c.args.source.now)
