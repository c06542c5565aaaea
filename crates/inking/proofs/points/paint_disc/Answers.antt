use Rattle.std.proofs.Common.{◌≡◌, ◌∙◌, ℕ, ◌*◌, ap, subst}
use Rattle.geom.specs.Device.{DevicePoint}
use Rattle.strokes.specs.Disc.{DiscValue, disc_of, ring_of}
use Rattle.canvas.specs.Painted.{IsPainted}
use Rattle.canvas.specs.Shapes.{discs}
use Rattle.canvas.proofs.Painting.{painted-append}
use Rattle.inking.proofs.points.paint_disc.Goals as goal

pub returns : goal.returns
returns c =
    let at : DevicePoint = c.args.at in
    let style = c.args.style.now in
    let width : c.fine-width.result ≡ c.args.factor * style.width = c.fine-width.ensures.value ∙ ap (λ n. c.args.factor * n) c.from.ensures in
    let disc : c.new.result ≡ disc_of at (c.args.factor * style.size) = c.new.ensures ∙ ap (λ (n : ℕ). disc_of at n) c.fine-size.ensures.value in
    let ring : c.ring.result ≡ ring_of at (c.args.factor * style.size) (c.args.factor * style.width) =
    c.ring.ensures ∙ (ap (λ (n : ℕ). ring_of at n c.fine-width.result) c.fine-size.ensures.value ∙ ap (λ (n : ℕ). ring_of at (c.args.factor * style.size) n) width) in
    painted-append c.args.canvas.now c.fill_round.new.canvas c.fill_round-2.new.canvas
    (discs (disc_of at (c.args.factor * style.size)) style.colour) (discs (ring_of at (c.args.factor * style.size) (c.args.factor * style.width)) style.outline)
    (subst (λ (d : DiscValue). IsPainted c.args.canvas.now c.fill_round.new.canvas (discs d style.colour)) disc c.fill_round.ensures)
    (subst (λ (d : DiscValue). IsPainted c.fill_round.new.canvas c.fill_round-2.new.canvas (discs d style.outline)) ring c.fill_round-2.ensures)
