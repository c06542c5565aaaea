use Rattle.std.proofs.Common.{arith}
use Rattle.geom.proofs.Caps.{zeros-past}
use Rattle.geom.proofs.decimal.with_zeros.Goals as goal

pub returns-else-zeros-lt20 : goal.returns-else-zeros-lt20
returns-else-zeros-lt20 c = omega (arith, zeros-past c.args.number c.args.zeros (omega arith) c.if-zeros-lt20.false)
