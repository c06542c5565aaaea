use Rattle.std.proofs.Common.{arith}
use Rattle.std.proofs.lemmas.Int.{ints}
use Rattle.symbols.proofs.stamp.position_on.Goals as goal

pub overflow_sub-apart : goal.overflow_sub-apart
overflow_sub-apart c = omega (arith, ints, c.from-2.ensures, c.requires)

pub overflow_sub-apart-2 : goal.overflow_sub-apart-2
overflow_sub-apart-2 c = omega (arith, ints, c.from.ensures, c.from-2.ensures, c.requires)
