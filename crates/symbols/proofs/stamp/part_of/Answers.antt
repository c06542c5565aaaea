use Rattle.std.proofs.Common.{◌+◌, ◌-◌, arith}
use Rattle.symbols.proofs.Stamping.{part-length, part-get}
use Rattle.symbols.proofs.stamp.part_of.Goals as goal

pub returns-clause-count : goal.returns-clause-count
returns-clause-count c = part-length c.args.pixels.now c.args.start c.args.count (c.args.start + c.args.count - c.args.start) (omega arith) c.requires

pub returns-clause-part : goal.returns-clause-part
returns-clause-part c = λ k h. part-get c.args.pixels.now c.args.start c.args.count (c.args.start + c.args.count - c.args.start) k (omega arith) c.requires h
