use Rattle.std.proofs.Common.{Some, ℕ, refl}
use lib.IntN.{pos}
use Rattle.geom.specs.Device.{pixel_centre}
use Rattle.strokes.specs.Disc.{covers_disc}
use Rattle.canvas.specs.Shapes.{Disc}
use Rattle.canvas.proofs.Painting.{painted-none, painted-shape}
use Rattle.inking.proofs.points.fill_round.Goals as goal

pub returns-in-Some : goal.returns-in-Some
returns-in-Some c = rw c.in-Some.is
    (painted-shape (Disc c.args.disc c.in-Some.colour) (λ (i j : ℕ). covers_disc c.args.disc (pixel_centre (pos i) (pos j))) (λ i j. Some c.in-Some.colour)
    c.args.canvas.now c.fill_disc.new.canvas (λ i j. refl) (λ i j. refl) c.fill_disc.ensures)

pub returns-in_default : goal.returns-in_default
returns-in_default c = rw c.in_default.is (painted-none c.args.canvas.now)
