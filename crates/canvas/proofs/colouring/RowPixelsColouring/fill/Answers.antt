use Rattle.std.proofs.Common.{◌≡◌, ◌∙◌, ◌+◌, ℕ, ◌∷◌, suc, List, drop, get_or, arith}
use Rattle.std.proofs.Math.Seq.{drop-cons}
use Rattle.mapdefs.specs.declared.colour.Rgb.{Rgb}
use Rattle.canvas.proofs.Stamps.{shown-next}
use Rattle.canvas.proofs.colouring.RowPixelsColouring.fill.Goals as goal

pub loop-k-preserved : goal.loop-k-preserved
loop-k-preserved c =
    let colours : List Rgb = c.args.self.now.colours.now in
    let k : ℕ = c.loop-k.k in
    let from : ℕ = c.args.self.now.from in
    let x : Rgb = get_or colours k (record { red = 0; green = 0; blue = 0 }) in
    let here : c.from-first.result + k ≡ from + k = omega (arith, c.from-first.ensures) in
    let next : from + (k + 1) ≡ from + k + 1 = omega arith in
    let after : drop k colours ≡ x ∷ drop (k + 1) colours = rw (add-one k) (drop-cons colours k (record { red = 0; green = 0; blue = 0 }) c.loop-k-test.true) in
    record {
      width = c.put_pixel.ensures.wide ∙ c.loop-k.invariant.width;
      filled = λ i.
          rw next (shown-next (from + k) x (drop (k + 1) colours) i c.loop-k.row c.put_pixel.new.row (rw here at c.put_pixel.ensures.put) (rw here at c.put_pixel.ensures.left) (rw here at c.put_pixel.ensures.right))
          ∙ (rw after at (c.loop-k.invariant.filled i));
    }
  where
    add-one : (n : ℕ) → n + 1 ≡ suc n
    add-one n = omega arith
