use Rattle.std.proofs.Common.{◌≡◌, ◌∙◌, ◌^◌, false, sym, arith}
use Rattle.std.proofs.lemmas.Bool.{and_left}
use lib.IntN.{pos}
use Rattle.scanfill.proofs.Words.{word}
use Rattle.strokes.specs.Square.{covers_square, is_beside}
use Rattle.strokes.proofs.Marking.{no-column}
use Rattle.strokes.proofs.square.SquareCover.rows.Goals as goal

pub returns-then-columns-clause-none : goal.returns-then-columns-clause-none
unfolding covers_square
returns-then-columns-clause-none c = λ i j column row out.
    let s = c.self.inside in
    let beside : is_beside s.size s.pixel.i (pos i) ≡ false =
    rw (c.i.ensures.value, word (2 ^ 44) s.pixel.i (omega arith) c.i.ensures.limits.column) at (sym (c.columns_beside-columns.ensures.all i (omega (arith, column, c.pixels.ensures.value))) ∙ no-column c.columns_beside-columns.result i (omega (arith, c.if-columns.true))) in
    rw (← c.self.view_is) (and_left (is_beside s.size s.pixel.i (pos i)) (is_beside s.size s.pixel.j (pos j)) beside)
