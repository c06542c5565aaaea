use Rattle.std.proofs.Common.{◌∙◌, sym, ap, arith}
use Rattle.scripts.specs.Script.{fault_of}
use Rattle.batches.proofs.Leading.{some-left}
use Rattle.scripts.proofs.Rests.{none-left}
use Rattle.scripts.proofs.ScriptSteps.{script_from, script_from-nil, fault-readable, fault-unreadable}
use Rattle.scripts.proofs.script.unreadable_command.Goals as goal

pub returns-in-None : goal.returns-in-None
returns-in-None c =
    sym (fault-unreadable c.loop-rest.number c.loop-rest.rest.now (some-left _ _ c.is_empty.ensures c.loop-rest-test.true) c.in-None.ensures.value)
    ∙ c.loop-rest.invariant.fault

pub loop-rest-preserved : goal.loop-rest-preserved
loop-rest-preserved c = record {
  fault =
      sym (fault-readable c.loop-rest.number c.loop-rest.rest.now c.in-Some.field-0-0 c.in-Some.others.now
      (some-left _ _ c.is_empty.ensures c.loop-rest-test.true) c.in-Some.ensures.value)
      ∙ c.loop-rest.invariant.fault;
  count = omega (arith, c.in-Some.ensures.shrinks, c.loop-rest.invariant.count);
}

pub returns : goal.returns
returns c =
    sym (ap fault_of (script_from-nil c.loop-rest.number))
    ∙ sym (ap (λ rest. fault_of (script_from c.loop-rest.number rest)) (none-left _ _ c.is_empty.ensures c.loop-rest-test.false))
    ∙ c.loop-rest.invariant.fault
