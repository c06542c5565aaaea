use Rattle.std.proofs.Common.{Some, ℕ, refl}
use lib.IntN.{pos}
use Rattle.strokes.specs.Square.{covers_square}
use Rattle.canvas.specs.Shapes.{Mark}
use Rattle.canvas.proofs.Painting.{painted-none, painted-shape}
use Rattle.inking.proofs.points.mark.Goals as goal

pub returns-in-Some : goal.returns-in-Some
returns-in-Some c = rw c.in-Some.is
    (painted-shape (Mark (record { pixel = c.args.pixel; size = c.args.size }) c.in-Some.colour) (λ (i j : ℕ). covers_square c.new.result (pos i) (pos j)) (λ i j. Some c.in-Some.colour)
    c.args.canvas.now c.fill_square.new.canvas (λ i j. rw c.new.ensures refl) (λ i j. refl) c.fill_square.ensures)

pub returns-in_default : goal.returns-in_default
returns-in_default c = rw c.in_default.is (painted-none c.args.canvas.now)
