use Rattle.std.proofs.Common.{◌^◌, arith}
use lib.IntN.{pos}
use Rattle.scanfill.proofs.Words.{word}
use Rattle.labelink.specs.Ink.{GlyphValue}
use Rattle.labelink.proofs.Boxed.{left-of, right-of}
use Rattle.labelink.proofs.placed_glyph.PlacedGlyphBoxShape.columns.Goals as goal

pub returns-clause-before : goal.returns-clause-before
returns-clause-before c = λ i j h.
    let g : GlyphValue = record { glyph = c.self.inside.glyph.now; left = c.self.inside.left; top = c.self.inside.top } in
    rw (← c.self.view_is) (left-of g (pos i) (pos j) (rw (word (2 ^ 47) c.self.inside.left (omega arith) c.self.invariant.left) at (c.span_on.ensures.before i h)))

pub returns-clause-after : goal.returns-clause-after
returns-clause-after c = λ i j h past.
    let g : GlyphValue = record { glyph = c.self.inside.glyph.now; left = c.self.inside.left; top = c.self.inside.top } in
    rw (← c.self.view_is) (right-of g (pos i) (pos j) (rw (word (2 ^ 47) c.self.inside.left (omega arith) c.self.invariant.left) at (c.span_on.ensures.after i h past)))
