use Rattle.std.proofs.Common.{Some, ℕ}
use lib.IntN.{pos}
use Rattle.labelink.specs.Ink.{GlyphValue, outlines_glyph}
use Rattle.labelink.specs.declared.reach.Reach.TheVariants.{Neighbours}
use Rattle.canvas.proofs.Filling.{filled_next}
use Rattle.compose.proofs.ink.paint_neighbours.Goals as goal

pub loop-glyph-preserved : goal.loop-glyph-preserved
loop-glyph-preserved c =
    let filled = rw c.of.ensures at c.in_ok-paint_cover.ensures in
    filled_next (λ (g : GlyphValue) (i j : ℕ). outlines_glyph Neighbours g (pos i) (pos j)) c.args.glyphs.now c.loop-glyph.glyph-index c.glyph-item.result (λ i j. Some c.args.colour) c.args.canvas.now c.loop-glyph.canvas _
    c.loop-glyph-test.true c.glyph-item.is c.loop-glyph.invariant filled
