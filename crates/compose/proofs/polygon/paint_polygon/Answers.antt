use Rattle.std.proofs.Common.{◌∙◌, map, arith}
use Rattle.viewport.specs.View.{device_point}
use Rattle.compose.specs.Paint.{polygon_shapes}
use Rattle.canvas.proofs.Painting.{painted-none, painted-append, painted_end, painted_next}
use Rattle.compose.proofs.polygon.paint_polygon.Goals as goal

pub loop-style-init : goal.loop-style-init
loop-style-init c = painted-none c.args.canvas.now

pub fill_rings-requires : goal.fill_rings-requires
fill_rings-requires c = record { width = c.loop-style.invariant.width ∙ c.requires.width; height = c.loop-style.invariant.height ∙ c.requires.height }

pub paint_outline-requires : goal.paint_outline-requires
paint_outline-requires c = record {
  width = c.in_ok-fill_rings.ensures.width ∙ (c.loop-style.invariant.width ∙ c.requires.width);
  height = c.in_ok-fill_rings.ensures.height ∙ (c.loop-style.invariant.height ∙ c.requires.height);
}

pub loop-style-preserved : goal.loop-style-preserved
loop-style-preserved c =
    painted_next (polygon_shapes c.args.scene.now.view.factor (map (map (device_point c.args.scene.now.view)) c.args.rings.now)) c.args.styles.now c.loop-style.style-index c.style-item.result _ c.loop-style.canvas _
    c.loop-style-test.true c.style-item.is c.loop-style.invariant
    (painted-append c.loop-style.canvas c.fill_rings.new.canvas c.paint_outline.new.canvas _ _ c.in_ok-fill_rings.ensures c.in_ok-paint_outline.ensures)

pub returns : goal.returns
returns c =
    painted_end (polygon_shapes c.args.scene.now.view.factor (map (map (device_point c.args.scene.now.view)) c.args.rings.now)) c.args.styles.now c.loop-style.style-index c.args.canvas.now c.loop-style.canvas
    (omega arith) c.loop-style.invariant
