use Rattle.std.proofs.Common.{Some, take}
use Rattle.std.specs.List.{list_any}
use lib.IntN.{pos}
use Rattle.labelink.specs.Ink.{outlines_glyph}
use Rattle.labelink.specs.declared.reach.Reach.TheVariants.{Disc}
use Rattle.canvas.specs.Painted.{IsFilled}
use Rattle.compose.proofs.ink.paint_discs.Given as goal

abbrev pub invariant-loop-glyph : goal.invariant-loop-glyph
invariant-loop-glyph l = IsFilled (λ i j. list_any (λ g. outlines_glyph (Disc l.chords) g (pos i) (pos j)) (take l.glyph-index l.glyphs)) (λ i j. Some l.colour) l.fn.canvas l.canvas
