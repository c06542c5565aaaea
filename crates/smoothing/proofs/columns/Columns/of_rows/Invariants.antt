use Rattle.smoothing.specs.Columns.{AreColumns}
use Rattle.smoothing.specs.Fine.{pixel_at}
use Rattle.smoothing.proofs.columns.Columns.of_rows.Given as goal

abbrev pub invariant-loop-row : goal.invariant-loop-row
invariant-loop-row g l = AreColumns (pixel_at l.fine l.width) l.first g.row.W l.row l.columns.outer l.columns.inner
