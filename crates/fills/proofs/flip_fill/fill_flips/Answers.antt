use Rattle.std.proofs.Common.{◌≡◌, ◌∙◌, ◌*◌, length, ap, refl, sym, rules, arith}
use Rattle.scanfill.specs.Flips.{FlipsValue}
use Rattle.fills.proofs.FlipFilling.{filling-next}
use Rattle.fills.proofs.flip_fill.fill_flips.Goals as goal

pub loop-span-preserved : goal.loop-span-preserved
loop-span-preserved c =
    let l = c.loop-span in
    let f = l.invariant.filling in
    let wide : l.spans.width ≡ l.canvas.width = ap (λ (t : FlipsValue). t.width) l.invariant.sides ∙ (c.requires.width ∙ sym f.width) in
    let area : length l.canvas.pixels ≡ l.canvas.width * l.canvas.height = f.area ∙ (c.width-width.ensures.area ∙ rw (f.width, f.height) refl) in
    record {
      sides = search (rules, c.in-Some.ensures.sides, l.invariant.sides);
      filling = filling-next c.args.flips.now.flips l.spans.flips c.next.new.self.flips c.in-Some.span c.args.colour c.args.canvas.now l.canvas c.fill_row.new.self area
          (λ i j h. c.in-Some.ensures.flipped i j (omega (arith, h, wide))) f c.fill_row.ensures;
    }
