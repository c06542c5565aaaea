use Rattle.std.proofs.Common.{Some, ℕ}
use Rattle.std.specs.List.{list_any}
use lib.IntN.{pos}
use Rattle.labelink.specs.Disc.{RunValue, outlines_run}
use Rattle.labelink.specs.Ink.{GlyphValue, outlines_glyph}
use Rattle.labelink.specs.declared.reach.Reach.TheVariants.{Disc}
use Rattle.canvas.proofs.Filling.{filled-same, filled_next}
use Rattle.compose.proofs.ink.paint_discs.Goals as goal

pub loop-glyph-preserved : goal.loop-glyph-preserved
loop-glyph-preserved c =
    let g = c.glyph-item.result in
    let runs = c.in_ok-runs.runs.items in
    let filled = filled-same (λ (i j : ℕ). list_any (λ (run : RunValue). outlines_run run (pos i) (pos j)) runs) (λ (i j : ℕ). outlines_glyph (Disc c.args.chords.now) g (pos i) (pos j))
    (λ i j. Some c.args.colour) c.loop-glyph.canvas _ (λ i j. c.in_ok-runs.ensures (pos i) (pos j)) (rw c.deref.ensures.value at c.in_ok-paint_covers.ensures) in
    filled_next (λ (g : GlyphValue) (i j : ℕ). outlines_glyph (Disc c.args.chords.now) g (pos i) (pos j)) c.args.glyphs.now c.loop-glyph.glyph-index c.glyph-item.result (λ i j. Some c.args.colour) c.args.canvas.now
    c.loop-glyph.canvas _ c.loop-glyph-test.true c.glyph-item.is c.loop-glyph.invariant filled
