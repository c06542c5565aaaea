use Rattle.fills.proofs.Sweeping.{filled-all}
use Rattle.fills.proofs.sweep.fill_polygon.Goals as goal

pub returns-clause-filled : goal.returns-clause-filled
returns-clause-filled c =
    filled-all c.args.polygon.now c.args.colour c.fill_next.new.sweep.row c.loop-spans.sweep c.args.canvas.now c.loop-spans.canvas c.fill_next.new.canvas
    c.width.ensures.area c.loop-spans.invariant.sweep c.in_ok-fill_next.ensures.rows.0 (c.in_ok-fill_next.ensures.last c.if-branch.false)
    c.loop-spans.invariant.filled c.in_ok-fill_next.ensures.filled
