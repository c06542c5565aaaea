use Rattle.std.proofs.Common.{arith}
use Rattle.std.specs.List.{flat_map}
use Rattle.inking.specs.Styles.{point_shapes}
use Rattle.canvas.proofs.Painting.{painted-none, painted_end, painted_next}
use Rattle.inking.proofs.points.paint_by_style.Goals as goal

pub loop-part-init : goal.loop-part-init
loop-part-init c = painted-none c.args.canvas.now

pub loop-part-preserved : goal.loop-part-preserved
loop-part-preserved c =
    painted_next (λ part. flat_map (point_shapes c.args.scene.now.view c.args.scene.now.map.symbols c.args.style.now) part) c.args.parts.now c.loop-part.part-index c.part-item.result _ c.loop-part.canvas _
    c.loop-part-test.true c.part-item.is c.loop-part.invariant (rw c.as_slice.ensures at c.paint_part.ensures)

pub returns : goal.returns
returns c = painted_end (λ part. flat_map (point_shapes c.args.scene.now.view c.args.scene.now.map.symbols c.args.style.now) part) c.args.parts.now c.loop-part.part-index c.args.canvas.now c.loop-part.canvas (omega arith) c.loop-part.invariant
