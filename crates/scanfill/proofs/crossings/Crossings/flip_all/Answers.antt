use Rattle.std.proofs.Common.{◌≡◌, refl, arith}
use Rattle.scanfill.proofs.Counting.{count-begun, count-passed}
use Rattle.scanfill.proofs.crossings.Crossings.flip_all.Goals as goal

pub loop-at-init : goal.loop-at-init
loop-at-init c =
    let s = c.args.self.now in
    record { width = refl; all = λ i h. rw (count-passed s.list.items s.row s.passed s.begun i s.ordered) }

pub returns-clause-all : goal.returns-clause-all
returns-clause-all c = λ i h.
    let s = c.args.self.now in
    let at : c.loop-at.at ≡ s.begun = omega (arith, s.ordered.rising, c.loop-at.auto.at-end, c.loop-at-test.false) in
    rw (← count-begun s.list.items s.row s.passed s.begun i s.ordered, ← at) (c.loop-at.invariant.all i h)
