use Rattle.scanfill.specs.Reading.{IsReading}
use Rattle.std.proofs.Common.{ℕ}
use Rattle.scanfill.proofs.box_shape.read_row.Given as goal

abbrev pub invariant-loop-column : goal.invariant-loop-column
invariant-loop-column g l = IsReading (λ (i : ℕ). g.S.BoxShape.covered l.shape i l.j) l.end l.column l.reading l.out
