use Rattle.std.proofs.Common.{add-one}
use Rattle.journal.proofs.Stuffing.{no_end_more}
use Rattle.journal.proofs.slip.first_frame.Goals as goal

pub loop-at-preserved : goal.loop-at-preserved
loop-at-preserved c = rw add-one (no_end_more c.args.bytes.now c.loop-at.at c.loop-at-test.true c.if-bytes-at.false c.loop-at.invariant)
