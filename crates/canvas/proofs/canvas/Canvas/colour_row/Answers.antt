use Rattle.std.proofs.Common.{◌≡◌, ◌∙◌, ◌+◌, ◌*◌, ◌-◌, ◌≤◌, ◌<◌, length, refl, arith}
use Rattle.std.proofs.lemmas.List.{with_items_is}
use Rattle.std.proofs.lemmas.Nat.{row_fits}
use Rattle.canvas.proofs.Filling.{filled-row, part-wide, put-length}
use Rattle.canvas.proofs.canvas.Canvas.colour_row.Goals as goal

pub returns : goal.returns
returns g c =
    let inside = c.self.inside in
    let has = g.K.Colouring.has c.args.colouring.now in
    let colour = g.K.Colouring.colour c.args.colouring.now in
    let is : c.from-width.result ≡ inside.width = c.from-width.ensures ∙ c.pixels.ensures.value in
    let start : c.from.result * c.from-width.result ≡ c.args.j * inside.width = rw (c.from.ensures, is) refl in
    let row : c.args.j < inside.height = rw (← c.self.view_is) at c.requires.row in
    let within : c.args.j * inside.width + inside.width ≤ length inside.pixels.items = omega (arith, row_fits c.args.j inside.width inside.height inside.width row (omega arith), c.self.invariant.area) in
    let wide : length c.fill.new.row ≡ inside.width =
    part-wide (c.from.result * c.from-width.result) inside.width (c.from.result * c.from-width.result + c.from-width.result - c.from.result * c.from-width.result)
    inside.pixels.items c.fill.new.row (omega (arith, is)) (omega (arith, start, is, within)) (rw c.deref_mut.ensures.value at c.fill.auto.row) in
    let read = rw c.deref_mut.ensures.value at c.fill.ensures in
    let filled = filled-row has colour inside.width c.args.j (c.from.result * c.from-width.result)
    (c.from.result * c.from-width.result + c.from-width.result - c.from.result * c.from-width.result) inside.pixels.items c.fill.new.row
    (omega (arith, c.pixels.ensures.limits, c.pixels.ensures.value)) start (omega (arith, is)) (omega (arith, start, is, within)) (wide ∙ omega (arith, is)) read in
    let size = put-length (c.from.result * c.from-width.result) (c.from.result * c.from-width.result + c.from-width.result - c.from.result * c.from-width.result) inside.pixels.items c.fill.new.row
    (omega (arith, start, is, within)) (wide ∙ omega (arith, is)) in
    let len = rw c.deref_mut.ensures.value at c.deref_mut.ensures.len in
    let items = with_items_is inside.pixels _ (size ∙ len) in
    rw (← c.self.view_is, c.deref_mut.ensures.value, items) (record { width = refl; height = refl; area = size; rows = filled })
