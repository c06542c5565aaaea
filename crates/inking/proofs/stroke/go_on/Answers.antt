use Rattle.std.proofs.Common.{ℕ, ◌≡◌, ◌∙◌, Option, Some, ap}
use Rattle.mapdefs.specs.declared.colour.Rgb.{Rgb}
use Rattle.viewport.specs.View.{ViewValue, device_point}
use Rattle.inking.specs.Stroked.{step_covers}
use Rattle.inking.proofs.Stroking.{filled-area, filled-of, trail-of, vertex-after, vertex-before}
use Rattle.inking.proofs.stroke.go_on.Goals as goal

pub paint_step-requires : goal.paint_step-requires
paint_step-requires c =
    let from : c.device-from.result ≡ device_point c.args.pen.now.view c.args.trail.now.from = c.device-from.ensures ∙ ap (λ (view : ViewValue). device_point view c.args.trail.now.from) c.projection-projection.ensures in
    rw from (vertex-before c.args.pen.now c.args.canvas.now c.args.trail.now c.width-area.ensures.area c.requires.trail)

pub returns-clause-trail : goal.returns-clause-trail
returns-clause-trail c =
    let pen = c.args.pen.now in
    let colour : ℕ → ℕ → Option Rgb = λ i j. Some pen.colour in
    let from : c.device-from.result ≡ device_point pen.view c.args.trail.now.from = c.device-from.ensures ∙ ap (λ (view : ViewValue). device_point view c.args.trail.now.from) c.projection-projection.ensures in
    let to : c.device-at.result ≡ device_point pen.view c.args.to = c.device-at.ensures ∙ ap (λ (view : ViewValue). device_point view c.args.to) c.projection-projection.ensures in
    let filled = rw (from, to) at c.in_ok-paint_step.ensures in
    let test = step_covers pen.width (device_point pen.view c.args.trail.now.from) (device_point pen.view c.args.to) in
    let area = filled-area test colour c.args.canvas.now c.paint_step.new.canvas filled c.width-area.ensures.area in
    trail-of pen c.paint_step.new.canvas c.args.to c.quiet_at.result c.quiet_at.ensures.has c.quiet_at.ensures.quiet
    (filled-of pen test colour c.args.canvas.now c.paint_step.new.canvas filled c.requires.sides) area
    (vertex-after pen (device_point pen.view c.args.trail.now.from) (device_point pen.view c.args.to) c.args.canvas.now c.paint_step.new.canvas area filled)
