use Rattle.std.proofs.Common.{◌≡◌, ◌∙◌, get_or, ap, arith}
use Rattle.std.proofs.lemmas.List.{get_or_default}
use Rattle.scanfill.specs.Crossing.{row_of}
use Rattle.scanfill.proofs.crossings.begun_by.Goals as goal

pub returns-then-row-clause-waiting : goal.returns-then-row-clause-waiting
returns-then-row-clause-waiting c = λ k d from past.
    let xs = c.args.list.now in
    let at = c.loop-at.at in
    let x = c.index-list-at.result in
    let is : row_of x ≡ row_of (get_or xs at d) = ap row_of (c.index-list-at.is ∙ get_or_default xs at x d c.loop-at-test.true) in
    omega (arith, c.if-row.true, c.row.ensures, c.requires.order at k d c.loop-at.auto.at from past, c.requires.waiting at d c.loop-at.auto.at c.loop-at-test.true)
