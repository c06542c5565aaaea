use Rattle.std.proofs.Common.{◌^◌, arith}
use lib.IntN.{pos}
use Rattle.scanfill.proofs.Words.{word}
use Rattle.labelink.proofs.Boxed.{outline-left, outline-right}
use Rattle.labelink.proofs.glyph_outline.GlyphOutlineBoxShape.columns.Goals as goal

pub returns-clause-before : goal.returns-clause-before
returns-clause-before c = λ i j h.
    let box = c.columns_of_box-side.ensures in
    rw (← c.self.view_is) (outline-left c.self.inside.glyph i (pos j) (rw (word (2 ^ 47) c.columns_of_box-side.result.1 (omega arith) box.limits, box.left) at (c.span_round.ensures.before i h)))

pub returns-clause-after : goal.returns-clause-after
returns-clause-after c = λ i j h past.
    let box = c.columns_of_box-side.ensures in
    rw (← c.self.view_is) (outline-right c.self.inside.glyph (pos i) (pos j) (rw (word (2 ^ 47) c.columns_of_box-side.result.1 (omega arith) box.limits, box.side, box.left) at (c.span_round.ensures.after i h past)))
