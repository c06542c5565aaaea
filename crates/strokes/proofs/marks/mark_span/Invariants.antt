use Rattle.strokes.specs.Columns.{AreMarked}
use Rattle.strokes.proofs.marks.mark_span.Given as goal

abbrev pub invariant-loop-column : goal.invariant-loop-column
invariant-loop-column l = AreMarked (record { from = l.fn.span.from; to = l.column }) l.fn.marks l.marks
