use Rattle.turns.specs.Pressure.{IsFoundIn}
use Rattle.turns.proofs.table.ConnectionTable.first.Given as goal

abbrev pub invariant-loop-slot : goal.invariant-loop-slot
invariant-loop-slot g l = IsFoundIn l.pressure l.self l.slot l.found
