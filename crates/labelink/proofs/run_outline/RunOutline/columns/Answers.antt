use Rattle.std.proofs.Common.{◌≡◌, ◌∙◌, sym, arith}
use Rattle.std.proofs.lemmas.Int.{ints}
use lib.IntN.{pos, ◌+ℤ◌, ◌-ℤ◌}
use Rattle.scanfill.proofs.Clipped.{held}
use Rattle.labelink.proofs.run_outline.RunOutline.columns.Goals as goal

pub returns-in-Some-clause-all : goal.returns-in-Some-clause-all
returns-in-Some-clause-all c = λ i h.
    let s = c.self.inside in
    let half = c.in-Some.half in
    let size = c.widened-half.ensures.range in
    let same = c.widened-half.ensures.value in
    let from : held (held s.from -ℤ held c.widened-half.result) ≡ s.from -ℤ pos half = omega (arith, ints, size, same, c.self.invariant.from) in
    let past : held (held s.past +ℤ held c.widened-half.result) ≡ s.past +ℤ pos half = omega (arith, ints, size, same, c.self.invariant.past) in
    rw (← c.self.view_is) ((rw (from, past) at (c.cut.ensures.all i h)) ∙ sym (rw (← c.self.view_is) at (c.in-Some.ensures (pos i))))
