use Rattle.std.proofs.Common.{Some, arith}
use Rattle.canvas.proofs.Filling.{filled_next}
use Rattle.inking.proofs.Stroking.{parts-end, place_covers}
use Rattle.inking.proofs.stroke.paint_along_parts.Goals as goal

pub loop-part-preserved : goal.loop-part-preserved
loop-part-preserved c =
    let pen = c.args.pen.now in
    let filled = c.in_ok-paint_along.ensures in
    filled_next (place_covers c.args.closed pen) c.args.parts.now c.loop-part.part-index c.part-item.result (λ i j. Some pen.colour) c.args.canvas.now c.loop-part.canvas c.paint_along.new.canvas
    c.loop-part-test.true c.part-item.is c.loop-part.invariant filled

pub returns : goal.returns
returns c = parts-end c.args.closed c.args.pen.now c.args.parts.now c.loop-part.part-index c.args.canvas.now c.loop-part.canvas (omega arith) c.loop-part.invariant
