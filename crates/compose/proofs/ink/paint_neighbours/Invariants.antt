use Rattle.std.proofs.Common.{Some, take}
use Rattle.std.specs.List.{list_any}
use lib.IntN.{pos}
use Rattle.labelink.specs.Ink.{outlines_glyph}
use Rattle.labelink.specs.declared.reach.Reach.TheVariants.{Neighbours}
use Rattle.canvas.specs.Painted.{IsFilled}
use Rattle.compose.proofs.ink.paint_neighbours.Given as goal

abbrev pub invariant-loop-glyph : goal.invariant-loop-glyph
invariant-loop-glyph l = IsFilled (λ i j. list_any (λ g. outlines_glyph Neighbours g (pos i) (pos j)) (take l.glyph-index l.glyphs)) (λ i j. Some l.colour) l.fn.canvas l.canvas
