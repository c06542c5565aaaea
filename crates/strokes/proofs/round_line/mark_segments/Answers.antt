use Rattle.std.proofs.Common.{◌∙◌, ◌||◌, ap, arith}
use Rattle.std.proofs.lemmas.List.{take_all}
use lib.IntN.{pos}
use Rattle.std.specs.List.{list_any}
use Rattle.strokes.specs.Columns.{is_marked}
use Rattle.strokes.specs.Round.{has_centre}
use Rattle.strokes.proofs.Marking.{marked-more}
use Rattle.strokes.proofs.round_line.mark_segments.Goals as goal

pub loop-segment-preserved : goal.loop-segment-preserved
loop-segment-preserved c = record {
  width = c.mark.ensures.width ∙ c.loop-segment.invariant.width;
  all = λ i h.
      let l = c.loop-segment in
      let more = c.mark.ensures.all i (omega (arith, c.requires.columns, l.invariant.width)) in
      marked-more (has_centre (pos i) (pos c.args.j)) c.args.segments.now l.segment-index c.segment-item.result
      (is_marked c.args.marks.now i) (is_marked l.marks i) (is_marked c.mark.new.self i)
      c.loop-segment-test.true c.segment-item.is (more ∙ ap (λ t. t || is_marked l.marks i) (c.columns.ensures.all i h)) (l.invariant.all i h);
}

pub returns : goal.returns
returns c = record {
  columns = c.loop-segment.invariant.width;
  all = λ i h.
      c.loop-segment.invariant.all i h
      ∙ ap (λ xs. list_any (has_centre (pos i) (pos c.args.j)) xs || is_marked c.args.marks.now i)
      (take_all c.loop-segment.segment-index c.args.segments.now c.loop-segment-test.false);
}
