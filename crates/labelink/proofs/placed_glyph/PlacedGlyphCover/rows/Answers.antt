use Rattle.std.proofs.Common.{◌^◌, ◌<◌, ◌≤◌, arith, ⊎_elim}
use Rattle.std.proofs.lemmas.Bool.{cases_lt, le-leb, ltb-false}
use lib.IntN.{pos}
use Rattle.scanfill.proofs.Words.{word}
use Rattle.labelink.specs.Ink.{GlyphValue}
use Rattle.labelink.proofs.Boxed.{above, below}
use Rattle.labelink.proofs.placed_glyph.PlacedGlyphCover.rows.Goals as goal

pub returns-clause-none : goal.returns-clause-none
returns-clause-none c = λ i j column row out.
    let g : GlyphValue = record { glyph = c.self.inside.glyph.now; left = c.self.inside.left; top = c.self.inside.top } in
    let rows = c.span_on-rows.result in
    let held = word (2 ^ 47) c.self.inside.top (omega arith) c.self.invariant.top in
    rw (← c.self.view_is) (⊎_elim
    (λ (before : j < rows.from). above g (pos i) (pos j) (rw held at (c.span_on-rows.ensures.before j before)))
    (λ (from : rows.from ≤ j).
    let past : rows.to ≤ j = ltb-false j rows.to (rw (le-leb rows.from j from) at out) in
    below g (pos i) (pos j) (rw held at (c.span_on-rows.ensures.after j past (omega (arith, row, c.pixels.ensures.value)))))
    (cases_lt j rows.from))
