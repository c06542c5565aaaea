use Rattle.std.proofs.Common.{arith}
use Rattle.std.proofs.lemmas.Int.{ints}
use Rattle.inking.proofs.Graining.{grains-below, less-is}
use Rattle.inking.proofs.grain.less.Goals as goal

pub returns-clause-value : goal.returns-clause-value
returns-clause-value c = less-is c.args.number c.from.result c.args.grain c.args.count c.from.ensures c.ranges.count.fits c.requires.number c.requires.grain

pub returns-clause-range : goal.returns-clause-range
returns-clause-range c =
    let product = grains-below c.args.count c.args.grain c.ranges.count.fits c.requires.grain in
    rw (less-is c.args.number c.from.result c.args.grain c.args.count c.from.ensures c.ranges.count.fits c.requires.number c.requires.grain)
    (record { above = omega (arith, ints, product, c.requires.number); below = omega (arith, ints, product, c.requires.number) })
