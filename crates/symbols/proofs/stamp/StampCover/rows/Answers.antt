use Rattle.std.proofs.Common.{◌≡◌, ◌^◌, ◌<◌, ◌≤◌, None, arith, ⊎_elim}
use Rattle.std.proofs.lemmas.Bool.{cases_lt, le-leb, ltb-false}
use lib.IntN.{pos}
use Rattle.scanfill.proofs.Words.{word}
use Rattle.symbols.specs.Stamp.{StampValue, position_on}
use Rattle.symbols.proofs.Stamping.{no-row}
use Rattle.symbols.proofs.stamp.StampCover.rows.Goals as goal

pub returns-clause-none : goal.returns-clause-none
returns-clause-none c = λ i j column row out.
    let s : StampValue = record { pixmap = c.self.inside.pixmap.now; pixel = c.self.inside.pixel } in
    let rows = c.span_on-rows.result in
    let held = word (2 ^ 44) s.pixel.j (omega arith) c.j.ensures.limits.row in
    let none : position_on s.pixmap.height s.pixel.j (pos j) ≡ None =
    ⊎_elim
    (λ (before : j < rows.from). rw (c.j.ensures.value, held, c.get.ensures.value) at (c.span_on-rows.ensures.before j before))
    (λ (from : rows.from ≤ j).
    let past : rows.to ≤ j = ltb-false j rows.to (rw (le-leb rows.from j from) at out) in
    rw (c.j.ensures.value, held, c.get.ensures.value) at (c.span_on-rows.ensures.after j past (omega (arith, row, c.pixels-2.ensures.value))))
    (cases_lt j rows.from) in
    rw (← c.self.view_is) (no-row s (pos i) (pos j) none)
