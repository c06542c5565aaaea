use Rattle.std.proofs.Common.{Some, arith}
use Rattle.canvas.proofs.Filling.{filled-nothing, filled_next}
use Rattle.inking.proofs.RoundStroking.{round-end, round_place_covers}
use Rattle.inking.proofs.Stroking.{filled-of}
use Rattle.inking.proofs.round_stroke.paint_round_parts.Goals as goal

pub loop-part-init : goal.loop-part-init
loop-part-init c = record { filled = filled-nothing (λ i j. Some c.args.pen.now.colour) c.args.canvas.now; sides = c.requires }

pub paint_round_part-requires : goal.paint_round_part-requires
paint_round_part-requires c = c.loop-part.invariant.sides

pub loop-part-preserved : goal.loop-part-preserved
loop-part-preserved c =
    let pen = c.args.pen.now in
    record {
      filled = filled_next (round_place_covers c.args.closed pen) c.args.parts.now c.loop-part.part-index c.part-item.result (λ i j. Some pen.colour) c.args.canvas.now c.loop-part.canvas c.paint_round_part.new.canvas
          c.loop-part-test.true c.part-item.is c.loop-part.invariant.filled c.in_ok-paint_round_part.ensures;
      sides = filled-of pen (round_place_covers c.args.closed pen c.part-item.result) (λ i j. Some pen.colour) c.loop-part.canvas c.paint_round_part.new.canvas c.in_ok-paint_round_part.ensures c.loop-part.invariant.sides;
    }

pub returns : goal.returns
returns c = round-end c.args.closed c.args.pen.now c.args.parts.now c.loop-part.part-index c.args.canvas.now c.loop-part.canvas (omega arith) c.loop-part.invariant.filled
