use Rattle.std.proofs.Common.{arith}
use Rattle.std.proofs.lemmas.List.Folds.{flat_map-map}
use Rattle.canvas.proofs.Painting.{painted-none, painted_end, painted_next}
use Rattle.compose.specs.Blocks.{corner_of, label_from}
use Rattle.compose.specs.Labels.{label_shapes}
use Rattle.compose.proofs.block.paint_moved.Goals as goal

pub loop-label-init : goal.loop-label-init
loop-label-init c = painted-none c.args.canvas.now

pub loop-label-preserved : goal.loop-label-preserved
loop-label-preserved c =
    painted_next (λ label. label_shapes c.args.fonts.now c.args.labels.now.candidates (label_from (corner_of c.args.view) label)) c.placed-label-items.result.now c.loop-label.label-index c.label-item.result _ c.loop-label.canvas _
    c.loop-label-test.true c.label-item.is c.loop-label.invariant (rw (c.candidates.ensures, c.moved.ensures) at c.in_ok-paint_shown.ensures)

pub returns : goal.returns
returns c =
    rw (← c.placed-label-items.ensures.value, flat_map-map (label_shapes c.args.fonts.now c.args.labels.now.candidates) (label_from (corner_of c.args.view)) c.placed-label-items.result.now)
    (painted_end (λ label. label_shapes c.args.fonts.now c.args.labels.now.candidates (label_from (corner_of c.args.view) label)) c.placed-label-items.result.now c.loop-label.label-index c.args.canvas.now c.loop-label.canvas
    (omega arith) c.loop-label.invariant)
