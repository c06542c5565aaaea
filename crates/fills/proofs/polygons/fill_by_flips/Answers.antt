use Rattle.std.proofs.Common.{Some, ◌≡◌, ◌∙◌, ℕ, map, refl, sym, arith}
use Rattle.viewport.specs.View.{device_point}
use Rattle.scanfill.specs.Flips.{is_pixel_flipped}
use Rattle.canvas.specs.Shapes.{Fill}
use Rattle.fills.proofs.FlipFilling.{painted-within}
use Rattle.fills.proofs.polygons.fill_by_flips.Goals as goal

pub returns-in-Ok-clause-ok : goal.returns-in-Ok-clause-ok
returns-in-Ok-clause-ok c =
    let view = c.args.scene.now.view in
    let rings = map (map (device_point view)) c.args.rings.now in
    let colour = c.args.colour in
    let seen : c.new-rows.result ≡ view = c.new-rows.ensures ∙ c.projection-2.ensures in
    let stand = rw seen at c.in-Ok.ensures.stand in
    let filled = rw (c.lend_flips-flips.ensures.same, c.make_latitudes.ensures) at c.fill_flips.ensures.filled in
    let area = rw (c.lend_flips-flips.ensures.same, c.make_latitudes.ensures) at c.fill_flips.ensures.area in
    rw c.return_flips.ensures
    (painted-within (Fill rings colour) (is_pixel_flipped c.sort.new.self.flips) (λ (i j : ℕ). Some colour) c.args.canvas.now c.fill_flips.new.canvas area
    (λ i j column row. sym (c.sort.ensures.same i j ∙ stand.same i j (omega (arith, column, c.requires.width)) (omega (arith, row, c.requires.height))))
    (λ i j. refl) filled)
