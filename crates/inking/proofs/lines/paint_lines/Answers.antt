use Rattle.std.proofs.Common.{◌∙◌, map, arith}
use Rattle.viewport.specs.View.{device_point}
use Rattle.inking.specs.Styles.{line_shapes}
use Rattle.canvas.proofs.Painting.{painted-none, painted_end, painted_next}
use Rattle.inking.proofs.lines.paint_lines.Goals as goal

pub loop-style-init : goal.loop-style-init
loop-style-init c = painted-none c.args.canvas.now

pub paint_by_style-requires-clause-width : goal.paint_by_style-requires-clause-width
paint_by_style-requires-clause-width c = c.loop-style.invariant.width ∙ c.requires.width

pub paint_by_style-requires-clause-height : goal.paint_by_style-requires-clause-height
paint_by_style-requires-clause-height c = c.loop-style.invariant.height ∙ c.requires.height

pub loop-style-preserved : goal.loop-style-preserved
loop-style-preserved c =
    painted_next (line_shapes c.args.scene.now.view.factor (map (map (device_point c.args.scene.now.view)) c.args.parts.now)) c.args.styles.now c.loop-style.style-index c.style-item.result _ c.loop-style.canvas _
    c.loop-style-test.true c.style-item.is c.loop-style.invariant c.in_ok-paint_by_style.ensures

pub returns : goal.returns
returns c =
    painted_end (line_shapes c.args.scene.now.view.factor (map (map (device_point c.args.scene.now.view)) c.args.parts.now)) c.args.styles.now c.loop-style.style-index c.args.canvas.now c.loop-style.canvas
    (omega arith) c.loop-style.invariant
