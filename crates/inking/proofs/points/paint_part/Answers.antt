use Rattle.std.proofs.Common.{arith}
use Rattle.inking.specs.Styles.{point_shapes}
use Rattle.canvas.proofs.Painting.{painted-none, painted_end, painted_next}
use Rattle.inking.proofs.points.paint_part.Goals as goal

pub loop-place-init : goal.loop-place-init
loop-place-init c = painted-none c.args.canvas.now

pub loop-place-preserved : goal.loop-place-preserved
loop-place-preserved c =
    painted_next (point_shapes c.args.scene.now.view c.args.scene.now.map.symbols c.args.style.now) c.args.part.now c.loop-place.place-index c.place-item.result _ c.loop-place.canvas _
    c.loop-place-test.true c.place-item.is c.loop-place.invariant c.paint_point.ensures

pub returns : goal.returns
returns c = painted_end (point_shapes c.args.scene.now.view c.args.scene.now.map.symbols c.args.style.now) c.args.part.now c.loop-place.place-index c.args.canvas.now c.loop-place.canvas (omega arith) c.loop-place.invariant
