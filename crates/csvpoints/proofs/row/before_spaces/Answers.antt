use Rattle.std.proofs.Common.{arith}
use Rattle.csvpoints.proofs.Fields.{back-all, back-end, back-step}
use Rattle.csvpoints.proofs.row.before_spaces.Goals as goal

pub returns-then-text-end-ne32 : goal.returns-then-text-end-ne32
returns-then-text-end-ne32 c = back-end c.args.text.now c.loop-spaces.spaces (omega (arith, c.loop-spaces-test.true)) c.if-text-end-ne32.true c.loop-spaces.invariant

pub loop-spaces-preserved : goal.loop-spaces-preserved
loop-spaces-preserved c = back-step c.args.text.now c.loop-spaces.spaces (omega (arith, c.loop-spaces-test.true)) c.if-text-end-ne32.false c.loop-spaces.invariant

pub returns : goal.returns
returns c = back-all c.args.text.now c.loop-spaces.spaces (omega (arith, c.loop-spaces-test.false)) c.loop-spaces.invariant
