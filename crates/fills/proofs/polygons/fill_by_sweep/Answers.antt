use Rattle.std.proofs.Common.{Some, ◌≡◌, ◌∙◌, ℕ, map, ap, refl, sym}
use Rattle.std.proofs.lemmas.Result.{on_ok_weaker}
use lib.IntN.{pos}
use Rattle.geom.specs.Device.{pixel_centre}
use Rattle.geom.specs.EvenOdd.{edges, is_covered}
use Rattle.viewport.specs.View.{device_point}
use Rattle.canvas.specs.Shapes.{Fill}
use Rattle.canvas.proofs.Painting.{painted-shape}
use Rattle.fills.proofs.polygons.fill_by_sweep.Goals as goal

pub returns : goal.returns
returns c =
    let rings = map (map (device_point c.args.scene.now.view)) c.args.rings.now in
    let is : c.in_ok-polygon.polygon ≡ edges rings = c.in_ok-polygon.ensures ∙ rw (c.deref.ensures.value, c.in_ok-rings.ensures) refl in
    on_ok_weaker c.fill_polygon.result
    (λ filled.
    painted-shape (Fill rings c.args.colour) (λ (i j : ℕ). is_covered c.in_ok-polygon.polygon (pixel_centre (pos i) (pos j))) (λ (i j : ℕ). Some c.args.colour)
    c.args.canvas.now c.fill_polygon.new.canvas (λ i j. ap (λ es. is_covered es (pixel_centre (pos i) (pos j))) (sym is)) (λ i j. refl) filled)
    c.fill_polygon.ensures.filled
