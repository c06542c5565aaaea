use Rattle.std.proofs.Common.{◌≡◌, ◌∙◌, ◌%◌, ℕ, true, Some, sym, arith}
use lib.IntN.{pos}
use Rattle.geom.specs.Device.{pixel_of}
use Rattle.strokes.specs.Short.{are_neighbours}
use Rattle.strokes.proofs.Short.{short-law}
use Rattle.inking.specs.Stroked.{segment_covers, vertex_covers}
use Rattle.inking.proofs.Stroking.{filled-same-pixel, filled-short}
use Rattle.inking.proofs.stroke.paint_step.Goals as goal

-- a short step that leads to another pixel
pub returns-then-not-are_neighbours-2 : goal.returns-then-not-are_neighbours-2
returns-then-not-are_neighbours-2 c =
    let w = c.args.pen.now.width in
    let from = c.args.from in
    let to = c.args.to in
    let odd : w % 2 ≡ 1 = omega (arith, c.if-width-eq0.false, c.width-width.ensures.value, c.width-width.ensures.most) in
    let wide : c.from.result ≡ w = omega (arith, c.from.ensures, c.width-width.ensures.value) in
    let near : are_neighbours w (pixel_of from) (pixel_of to) ≡ true = sym (c.if-not-are_neighbours.ensures ∙ rw (wide, c.pixel-first.ensures, c.pixel-second.ensures)) in
    filled-short (segment_covers w from to) (vertex_covers w from) (vertex_covers w to) (λ i j. Some c.args.pen.now.colour)
    c.args.canvas.now c.fill_vertex.new.canvas (λ (i j : ℕ). short-law w from to (pos i) (pos j) odd near) c.requires c.fill_vertex.ensures

-- a step within a pixel
pub returns-else-not-are_neighbours-2 : goal.returns-else-not-are_neighbours-2
returns-else-not-are_neighbours-2 c =
    let w = c.args.pen.now.width in
    let from = c.args.from in
    let to = c.args.to in
    let odd : w % 2 ≡ 1 = omega (arith, c.if-width-eq0.false, c.width-width.ensures.value, c.width-width.ensures.most) in
    let wide : c.from.result ≡ w = omega (arith, c.from.ensures, c.width-width.ensures.value) in
    let near : are_neighbours w (pixel_of from) (pixel_of to) ≡ true = sym (c.if-not-are_neighbours.ensures ∙ rw (wide, c.pixel-first.ensures, c.pixel-second.ensures)) in
    let same : are_neighbours 0 (pixel_of from) (pixel_of to) ≡ true = sym (c.if-not-are_neighbours-2.ensures ∙ rw (c.pixel-first.ensures, c.pixel-second.ensures)) in
    filled-same-pixel c.args.pen.now from to c.args.canvas.now (λ (i j : ℕ). short-law w from to (pos i) (pos j) odd near) same c.requires
