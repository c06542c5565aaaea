use Rattle.std.proofs.Common.{◌≡◌, ap, arith}
use Rattle.std.proofs.lemmas.Int.{ints}
use Rattle.std.specs.Prelude.{unsigned_abs}
use lib.IntN.{pos, ◌-ℤ◌}
use lib.Signed.{◌<ℤ◌, ◌≤ℤ◌}
use Rattle.scanfill.proofs.Clipped.{held}
use Rattle.labelink.specs.Disc.{RunValue}
use Rattle.labelink.proofs.Runs.{matched, run-beyond, run-chord, run-empty}
use Rattle.labelink.proofs.run_outline.RunOutline.half.Goals as goal

pub returns-then-self : goal.returns-then-self
returns-then-self c = λ i.
    let s = c.self.inside in
    let run : RunValue = record { reach = s.chords.now; row = s.row; from = s.from; past = s.past } in
    let none : s.past ≤ℤ s.from = omega (arith, ints, c.if-self.true, c.self.invariant.from, c.self.invariant.past) in
    rw (← c.self.view_is) (run-empty run i (pos c.args.row) none)

pub returns : goal.returns
returns c =
    let s = c.self.inside in
    let run : RunValue = record { reach = s.chords.now; row = s.row; from = s.from; past = s.past } in
    let some : s.from <ℤ s.past = omega (arith, ints, c.if-self.false, c.self.invariant.from, c.self.invariant.past) in
    let down : held (held s.row -ℤ held c.from.result) ≡ s.row -ℤ pos c.args.row = omega (arith, ints, c.from.ensures, c.self.invariant.row, c.ranges.row.fits) in
    let size = ap unsigned_abs down in
    rw (← c.self.view_is) (matched c.half.result _ _ _ _
    (λ far. (λ i. run-beyond run i (pos c.args.row) (rw size at far)))
    (λ h chord. (λ i. run-chord run i (pos c.args.row) h some (rw size at chord)))
    c.half.ensures)
