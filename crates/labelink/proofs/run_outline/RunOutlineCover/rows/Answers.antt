use Rattle.std.proofs.Common.{◌≡◌, ◌∙◌, sym, arith}
use Rattle.std.proofs.lemmas.Int.{ints}
use lib.IntN.{pos, ◌+ℤ◌, ◌-ℤ◌}
use Rattle.scanfill.proofs.Clipped.{held}
use Rattle.labelink.specs.Disc.{RunValue}
use Rattle.labelink.proofs.Runs.{off-rows, run-beyond}
use Rattle.labelink.proofs.run_outline.RunOutlineCover.rows.Goals as goal

pub returns-clause-none : goal.returns-clause-none
returns-clause-none c = λ i j column row out.
    let s = c.self.inside in
    let run : RunValue = record { reach = s.chords.now; row = s.row; from = s.from; past = s.past } in
    let size = c.widened-reach.ensures.range in
    let same = c.widened-reach.ensures.value in
    let reach = c.reach.ensures in
    let from : held (held s.row -ℤ held c.widened-reach.result) ≡ s.row -ℤ pos s.chords.now = omega (arith, ints, size, same, reach, c.self.invariant.row) in
    let past : held (held (held s.row +ℤ held c.widened-reach.result) +ℤ pos 1) ≡ (s.row +ℤ pos s.chords.now) +ℤ pos 1 = omega (arith, ints, size, same, reach, c.self.invariant.row) in
    let rows = rw (from, past) at (c.cut-rows.ensures.all j (omega (arith, row, c.pixels.ensures.value))) in
    rw (← c.self.view_is) (run-beyond run (pos i) (pos j) (off-rows run (pos j) (sym rows ∙ out)))
