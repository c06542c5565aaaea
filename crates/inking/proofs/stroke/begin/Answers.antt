use Rattle.std.proofs.Common.{ℕ, ◌≡◌, ◌∙◌, Option, Some, ap}
use Rattle.mapdefs.specs.declared.colour.Rgb.{Rgb}
use Rattle.viewport.specs.View.{ViewValue, device_point}
use Rattle.inking.specs.Stroked.{vertex_covers}
use Rattle.inking.proofs.Stroking.{filled-already, filled-area, filled-of, trail-of}
use Rattle.inking.proofs.stroke.begin.Goals as goal

pub returns-clause-trail : goal.returns-clause-trail
returns-clause-trail c =
    let pen = c.args.pen.now in
    let colour : ℕ → ℕ → Option Rgb = λ i j. Some pen.colour in
    let here : c.device-at.result ≡ device_point pen.view c.args.first = c.device-at.ensures ∙ ap (λ (view : ViewValue). device_point view c.args.first) c.projection.ensures in
    let filled = rw here at c.fill_vertex.ensures in
    let test = vertex_covers pen.width (device_point pen.view c.args.first) in
    trail-of pen c.fill_vertex.new.canvas c.args.first c.quiet_at.result c.quiet_at.ensures.has c.quiet_at.ensures.quiet
    (filled-of pen test colour c.args.canvas.now c.fill_vertex.new.canvas filled c.requires)
    (filled-area test colour c.args.canvas.now c.fill_vertex.new.canvas filled c.width-area.ensures.area)
    (filled-already test colour c.args.canvas.now c.fill_vertex.new.canvas filled)
