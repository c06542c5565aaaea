use Rattle.std.proofs.Common.{arith}
use Rattle.compose.specs.Labels.{label_shapes}
use Rattle.canvas.proofs.Painting.{painted-none, painted_end, painted_next}
use Rattle.compose.proofs.ink.paint_placed.Goals as goal

pub loop-label-init : goal.loop-label-init
loop-label-init c = painted-none c.args.canvas.now

pub loop-label-preserved : goal.loop-label-preserved
loop-label-preserved c =
    painted_next (label_shapes c.args.fonts.now c.args.labels.now) c.args.placed.now c.loop-label.label-index c.label-item.result _ c.loop-label.canvas _
    c.loop-label-test.true c.label-item.is c.loop-label.invariant c.in_ok-paint_label.ensures

pub returns : goal.returns
returns c = painted_end (label_shapes c.args.fonts.now c.args.labels.now) c.args.placed.now c.loop-label.label-index c.args.canvas.now c.loop-label.canvas (omega arith) c.loop-label.invariant
