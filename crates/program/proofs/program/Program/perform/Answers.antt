use Rattle.std.proofs.Common.{refl}
use Rattle.program.proofs.program.Program.perform.Goals as goal

pub returns-in-Run-clause-performs : goal.returns-in-Run-clause-performs
returns-in-Run-clause-performs g c = rw (c.in-Run.is, c.after-in-Run.ensures) (c.run.ensures.runs, refl)
