use Rattle.std.proofs.Common.{◌∙◌, ◌||◌, ap, arith}
use Rattle.std.proofs.lemmas.List.{take_all}
use lib.IntN.{pos}
use Rattle.std.specs.List.{list_any}
use Rattle.strokes.specs.Columns.{is_marked}
use Rattle.strokes.specs.Square.{SquareValue, covers_square}
use Rattle.strokes.proofs.Marking.{marked-more}
use Rattle.strokes.proofs.line.mark_squares.Goals as goal

pub loop-square-preserved : goal.loop-square-preserved
loop-square-preserved c = record {
  width = c.mark.ensures.width ∙ c.loop-square.invariant.width;
  all = λ i h.
      let l = c.loop-square in
      let more = c.mark.ensures.all i (omega (arith, c.requires.columns, l.invariant.width)) in
      marked-more (λ (s : SquareValue). covers_square s (pos i) (pos c.args.j)) c.args.squares.now l.square-index c.square-item.result
      (is_marked c.args.marks.now i) (is_marked l.marks i) (is_marked c.mark.new.self i)
      c.loop-square-test.true c.square-item.is (more ∙ ap (λ t. t || is_marked l.marks i) (c.columns.ensures.all i h)) (l.invariant.all i h);
}

pub returns : goal.returns
returns c = record {
  columns = c.loop-square.invariant.width;
  all = λ i h.
      c.loop-square.invariant.all i h
      ∙ ap (λ xs. list_any (λ (s : SquareValue). covers_square s (pos i) (pos c.args.j)) xs || is_marked c.args.marks.now i)
      (take_all c.loop-square.square-index c.args.squares.now c.loop-square-test.false);
}
