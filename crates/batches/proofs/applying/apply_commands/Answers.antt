use Rattle.std.proofs.Common.{◌∙◌, sym, arith}
use Rattle.batches.specs.Batch.{batch}
use Rattle.batches.proofs.Leading.{all-done, fails-as, goes-on, none-left, some-left, unread-fails}
use Rattle.batches.proofs.applying.apply_commands.Goals as goal

pub returns-in-Err-clause-failed : goal.returns-in-Err-clause-failed
returns-in-Err-clause-failed c =
    sym c.loop-rest.invariant.result
    ∙ unread-fails c.loop-rest.index c.loop-rest.rest.now c.loop-rest.draft c.in-Err.fault (some-left c.loop-rest.rest.now c.is_empty.result c.is_empty.ensures c.loop-rest-test.true) c.in-Err.ensures.value

pub returns-in-Err-apply_command-clause-failed : goal.returns-in-Err-apply_command-clause-failed
returns-in-Err-apply_command-clause-failed c =
    rw c.at_index.ensures
    (fails-as c.loop-rest.index c.loop-rest.rest.now c.in-Ok.read.1.now c.in-Ok.read.0 c.loop-rest.draft (batch c.args.bytes.now c.args.draft.now) c.in-Err-apply_command.error
    (some-left c.loop-rest.rest.now c.is_empty.result c.is_empty.ensures c.loop-rest-test.true) c.in-Ok.ensures.value c.loop-rest.invariant.result c.in-Err-apply_command.ensures.failed)

pub loop-rest-preserved : goal.loop-rest-preserved
loop-rest-preserved c = record {
  result =
      sym (goes-on c.loop-rest.index c.loop-rest.rest.now c.in-Ok.read.1.now c.in-Ok.read.0 c.loop-rest.draft c.apply_command.new.draft
      (some-left c.loop-rest.rest.now c.is_empty.result c.is_empty.ensures c.loop-rest-test.true) c.in-Ok.ensures.value c.in-Ok-apply_command.ensures.done)
      ∙ c.loop-rest.invariant.result;
  count = omega (arith, c.in-Ok.ensures.shrinks, c.loop-rest.invariant.count);
}

pub returns : goal.returns
returns c = record {
  done =
      sym c.loop-rest.invariant.result
      ∙ all-done c.loop-rest.index c.loop-rest.rest.now c.loop-rest.draft (none-left c.loop-rest.rest.now c.is_empty.result c.is_empty.ensures c.loop-rest-test.false);
  failed = tt;
}
