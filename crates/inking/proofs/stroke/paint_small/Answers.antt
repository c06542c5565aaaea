use Rattle.std.proofs.Common.{◌≡◌, ◌∙◌, [], map, refl, ap, ℕ, Bool, Option, Some}
use Rattle.mapdefs.specs.declared.colour.Rgb.{Rgb}
use Rattle.viewport.specs.View.{ViewValue, device_point}
use Rattle.canvas.specs.Painted.{IsFilled}
use Rattle.inking.specs.Stroked.{part_covers, pen_covers, vertex_covers}
use Rattle.inking.proofs.StrokeBlocks.{way-whole}
use Rattle.inking.proofs.Stroking.{way-begin, way-closed, way-open}
use Rattle.inking.proofs.stroke.paint_small.Goals as goal

pub returns-in_ok-paint_step : goal.returns-in_ok-paint_step
returns-in_ok-paint_step c =
    let pen = c.args.pen.now in
    let first = c.in-Some.first.now in
    let rest = c.in-Some.rest.now in
    let colour : ℕ → ℕ → Option Rgb = λ i j. Some pen.colour in
    let whole : ℕ → ℕ → Bool = part_covers c.args.closed pen.width (map (device_point pen.view) c.args.part.now) in
    let here : c.device-at.result ≡ device_point pen.view first = c.device-at.ensures ∙ ap (λ (view : ViewValue). device_point view first) c.projection.ensures in
    let filled : IsFilled (vertex_covers pen.width (device_point pen.view first)) colour c.args.canvas.now c.fill_vertex.new.canvas = rw here at c.fill_vertex.ensures in
    let begun = way-begin c.args.closed pen c.args.part.now first rest c.args.canvas.now c.fill_vertex.new.canvas c.in-Some.ensures.cases.0 c.requires filled in
    let end = c.in_ok-end.ensures in
    let way = way-whole c.args.closed pen first c.in_ok-end.end.from rest whole c.args.canvas.now c.fill_vertex.new.canvas c.paint_few.new.canvas end.from begun end.filled in
    let last : IsFilled (pen_covers pen c.in_ok-end.end.from first) colour c.paint_few.new.canvas c.paint_step.new.canvas = rw (end.tip.at, here) at c.in_ok-paint_step.ensures in
    way-closed c.args.closed pen first c.in_ok-end.end.from [] whole c.args.canvas.now c.paint_few.new.canvas c.paint_step.new.canvas c.if-closed.true refl way last

pub returns-else-closed : goal.returns-else-closed
returns-else-closed c =
    let pen = c.args.pen.now in
    let first = c.in-Some.first.now in
    let rest = c.in-Some.rest.now in
    let colour : ℕ → ℕ → Option Rgb = λ i j. Some pen.colour in
    let whole : ℕ → ℕ → Bool = part_covers c.args.closed pen.width (map (device_point pen.view) c.args.part.now) in
    let here : c.device-at.result ≡ device_point pen.view first = c.device-at.ensures ∙ ap (λ (view : ViewValue). device_point view first) c.projection.ensures in
    let filled : IsFilled (vertex_covers pen.width (device_point pen.view first)) colour c.args.canvas.now c.fill_vertex.new.canvas = rw here at c.fill_vertex.ensures in
    let begun = way-begin c.args.closed pen c.args.part.now first rest c.args.canvas.now c.fill_vertex.new.canvas c.in-Some.ensures.cases.0 c.requires filled in
    let end = c.in_ok-end.ensures in
    let way = way-whole c.args.closed pen first c.in_ok-end.end.from rest whole c.args.canvas.now c.fill_vertex.new.canvas c.paint_few.new.canvas end.from begun end.filled in
    way-open c.args.closed pen first c.in_ok-end.end.from [] whole c.args.canvas.now c.paint_few.new.canvas c.if-closed.false refl way
