use Rattle.std.proofs.Common.{rules, refl}
use Rattle.gridindex.proofs.Covering.{kept-more}
use Rattle.gridindex.proofs.groups.Groups.add.Goals as goal

pub returns-clause-ok : goal.returns-clause-ok
returns-clause-ok c = λ boxes area kept count. kept-more c.args.self.now _ boxes area c.args.index (search rules) count c.in_ok-push.ensures.items refl refl kept
