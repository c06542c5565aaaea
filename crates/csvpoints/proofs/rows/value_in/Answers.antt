use Rattle.std.proofs.Common.{None}
use Rattle.csvpoints.proofs.RowFeatures.{value-at}
use Rattle.csvpoints.proofs.rows.value_in.Goals as goal

pub returns-in-None : goal.returns-in-None
returns-in-None c = rw c.in-Some.is (value-at c.args.texts.now c.args.first c.args.end c.in-Some.column None c.if-column-end.true c.in-None.ensures)
