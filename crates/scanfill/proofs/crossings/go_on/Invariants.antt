use Rattle.scanfill.specs.Crossing.{HaveGoneOn}
use Rattle.scanfill.proofs.crossings.go_on.Given as goal

abbrev pub invariant-loop-at : goal.invariant-loop-at
invariant-loop-at l = HaveGoneOn l.fn.list l.list l.row l.passed l.at
