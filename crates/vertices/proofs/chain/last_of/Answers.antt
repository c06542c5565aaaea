use Rattle.std.proofs.Common.{◌-◌, length, arith, rules}
use Rattle.vertices.proofs.Blocks.{last-end}
use Rattle.vertices.proofs.chain.last_of.Goals as goal

pub returns-in-Some : goal.returns-in-Some
returns-in-Some c = last-end (length c.args.rest.now - 1) c.args.from c.args.rest.now c.in-Some.last.now (omega (arith, c.in-Some.ensures.item)) (search (rules, c.in-Some.ensures.item))
