use Rattle.std.proofs.Common.{length}
use Rattle.scanfill.specs.Reading.{IsReading}
use Rattle.strokes.specs.Columns.{is_marked}
use Rattle.strokes.proofs.marks.read_marks.Given as goal

abbrev pub invariant-loop-column : goal.invariant-loop-column
invariant-loop-column l = IsReading (is_marked l.marks) (length l.marks) l.column l.reading l.out
