use Rattle.collide.proofs.Bitwise.{HasNoneTo}
use Rattle.collide.proofs.bits.has_any.Given as goal

abbrev pub invariant-loop-number : goal.invariant-loop-number
invariant-loop-number l = HasNoneTo l.number l.from l.past l.words
