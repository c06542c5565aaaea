use Rattle.std.proofs.Common.{◌∙◌, ap, sym}
use Rattle.std.specs.List.{list_any}
use lib.IntN.{pos}
use Rattle.clip.specs.EdgeClass.{has_row}
use Rattle.clip.specs.declared.rows.RowRange.{RowRange}
use Rattle.clip.proofs.Joining.{joined-neither}
use Rattle.strokes.specs.Line.{covers_centre}
use Rattle.strokes.specs.Square.{SquareValue, covers_square}
use Rattle.strokes.proofs.Marking.{or-none}
use Rattle.strokes.proofs.line.LineCover.rows.Goals as goal

pub returns-clause-none : goal.returns-clause-none
returns-clause-none c = λ i j column row out.
    let s = c.self.inside in
    let neither = joined-neither c.rows_of_all-segments.result c.rows_of_all.result j (sym (ap (λ (rows : RowRange). has_row rows j) c.joined.ensures) ∙ out) in
    rw (← c.self.view_is) (or-none
    (list_any (covers_centre (pos i) (pos j)) s.segments.items)
    (list_any (λ (q : SquareValue). covers_square q (pos i) (pos j)) s.squares.items)
    (rw c.deref.ensures.value at (c.rows_of_all-segments.ensures.none i j column row neither.0))
    (rw c.deref-2.ensures.value at (c.rows_of_all.ensures.none i j column row neither.1)))
