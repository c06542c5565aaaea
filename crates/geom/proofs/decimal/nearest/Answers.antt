use Rattle.std.proofs.Common.{arith, refl}
use Rattle.geom.specs.Decimal.{nearest}
use Rattle.geom.proofs.Rounding.{nearest-bounds}
use Rattle.geom.proofs.decimal.nearest.Goals as goal

pub returns-clause-value : goal.returns-clause-value
unfolding nearest
returns-clause-value c = refl

pub returns-clause-bound : goal.returns-clause-bound
unfolding nearest
returns-clause-bound c = omega (arith, (nearest-bounds c.args.p c.args.q c.requires.least).0)
