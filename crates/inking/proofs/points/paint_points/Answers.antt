use Rattle.std.proofs.Common.{arith}
use Rattle.std.specs.List.{flat_map}
use Rattle.inking.specs.Styles.{point_shapes}
use Rattle.canvas.proofs.Painting.{painted-none, painted_end, painted_next}
use Rattle.inking.proofs.points.paint_points.Goals as goal

pub loop-style-init : goal.loop-style-init
loop-style-init c = painted-none c.args.canvas.now

pub loop-style-preserved : goal.loop-style-preserved
loop-style-preserved c =
    painted_next (λ style. flat_map (λ part. flat_map (point_shapes c.args.scene.now.view c.args.scene.now.map.symbols style) part) c.args.parts.now) c.args.styles.now c.loop-style.style-index c.style-item.result _ c.loop-style.canvas _
    c.loop-style-test.true c.style-item.is c.loop-style.invariant c.paint_by_style.ensures

pub returns : goal.returns
returns c = painted_end (λ style. flat_map (λ part. flat_map (point_shapes c.args.scene.now.view c.args.scene.now.map.symbols style) part) c.args.parts.now) c.args.styles.now c.loop-style.style-index c.args.canvas.now c.loop-style.canvas (omega arith) c.loop-style.invariant
