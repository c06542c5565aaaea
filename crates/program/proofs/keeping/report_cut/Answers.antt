use Rattle.program.proofs.Journals.{told}
use Rattle.program.proofs.keeping.report_cut.Goals as goal

pub returns-then-cut-ne0 : goal.returns-then-cut-ne0
returns-then-cut-ne0 g c = told c.args.requested c.args.cut _ _ c.if-requested.true c.if-cut-ne0.true c.report_cut_line.ensures
