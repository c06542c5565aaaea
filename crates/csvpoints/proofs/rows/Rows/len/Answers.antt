use Rattle.std.proofs.Common.{arith}
use Rattle.csvpoints.proofs.RowFeatures.{rows-length}
use Rattle.csvpoints.proofs.rows.Rows.len.Goals as goal

pub returns : goal.returns
returns c =
    let fields = c.self.inside in
    rw (← c.self.view_is) (omega (arith, c.len.ensures, rows-length fields.count fields.places fields.texts))
