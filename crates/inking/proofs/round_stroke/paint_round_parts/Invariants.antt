use Rattle.std.proofs.Common.{Some, take}
use Rattle.std.specs.List.{list_any}
use Rattle.canvas.specs.Painted.{IsFilled}
use Rattle.inking.specs.Stroked.{IsOf}
use Rattle.inking.proofs.RoundStroking.{round_place_covers}
use Rattle.inking.proofs.round_stroke.paint_round_parts.Given as goal

abbrev pub invariant-loop-part : goal.invariant-loop-part
invariant-loop-part l = record {
  filled : IsFilled (λ i j. list_any (λ part. round_place_covers l.closed l.pen part i j) (take l.part-index l.fn.parts)) (λ i j. Some l.pen.colour) l.fn.canvas l.canvas;
  sides : IsOf l.pen l.canvas;
}
