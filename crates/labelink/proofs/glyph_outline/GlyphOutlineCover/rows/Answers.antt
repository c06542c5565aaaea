use Rattle.std.proofs.Common.{◌^◌, ◌<◌, ◌≤◌, arith, ⊎_elim}
use Rattle.std.proofs.lemmas.Bool.{cases_lt, le-leb, ltb-false}
use lib.IntN.{pos}
use Rattle.scanfill.proofs.Words.{word}
use Rattle.labelink.proofs.Boxed.{outline-above, outline-below}
use Rattle.labelink.proofs.glyph_outline.GlyphOutlineCover.rows.Goals as goal

pub returns-clause-none : goal.returns-clause-none
returns-clause-none c = λ i j column row out.
    let rows = c.span_round-rows.result in
    let box = c.rows_of_box-side.ensures in
    let held = word (2 ^ 47) c.rows_of_box-side.result.1 (omega arith) box.limits in
    rw (← c.self.view_is) (⊎_elim
    (λ (before : j < rows.from). outline-above c.self.inside.glyph (pos i) j (rw (held, box.top) at (c.span_round-rows.ensures.before j before)))
    (λ (from : rows.from ≤ j).
    let past : rows.to ≤ j = ltb-false j rows.to (rw (le-leb rows.from j from) at out) in
    outline-below c.self.inside.glyph (pos i) (pos j) (rw (held, box.side, box.top) at (c.span_round-rows.ensures.after j past (omega (arith, row, c.pixels.ensures.value)))))
    (cases_lt j rows.from))
