use Rattle.std.proofs.Common.{rules, arith, refl}
use Rattle.gridindex.proofs.Covering.{cover-misses}
use Rattle.gridindex.proofs.level.Level.past_missed.Goals as goal

pub returns-then-is_missed-clause-missed : goal.returns-then-is_missed-clause-missed
returns-then-is_missed-clause-missed c = λ boxes order grouped end kept inside last.
    let m = rw c.deref.ensures.value at c.if-is_missed.ensures refl in
    cover-misses boxes order grouped end c.args.at c.args.self.now c.args.window m.0 kept (search rules) m.1 m.2 inside (omega (arith, last, c.saturating_add.ensures))
