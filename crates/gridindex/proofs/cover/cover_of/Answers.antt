use Rattle.std.proofs.Common.{◌≡◌, ◌<◌, ◌≤◌, arith, ⊎_elim}
use Rattle.std.proofs.lemmas.Bool.{cases_lt}
use Rattle.gridindex.proofs.cover.cover_of.Goals as goal

pub loop-index-preserved : goal.loop-index-preserved
loop-index-preserved c = λ i area h is. ⊎_elim
    (λ (lt : i < c.loop-index.index-index). λ place inside. c.with_box-cover.ensures.kept place (c.loop-index.invariant i area lt is place inside))
    (λ (ge : c.loop-index.index-index ≤ i). let e : i ≡ c.loop-index.index-index = omega arith in c.with_box-cover.ensures.added area (rw e at is))
    (cases_lt i c.loop-index.index-index)

pub returns : goal.returns
returns c = λ i area h. c.loop-index.invariant i area (omega (arith, h, c.loop-index-test.false))
