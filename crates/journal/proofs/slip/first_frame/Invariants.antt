use Rattle.std.proofs.Common.{take}
use Rattle.journal.specs.Slip.{HasNoEnd}
use Rattle.journal.proofs.slip.first_frame.Given as goal

abbrev pub invariant-loop-at : goal.invariant-loop-at
invariant-loop-at l = HasNoEnd (take l.at l.bytes)
