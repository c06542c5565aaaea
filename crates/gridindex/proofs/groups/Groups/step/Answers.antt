use Rattle.std.proofs.Common.{arith}
use Rattle.gridindex.proofs.Hits.{found-missed}
use Rattle.gridindex.proofs.groups.Groups.step.Goals as goal

pub returns-then-past-at-clause-found : goal.returns-then-past-at-clause-found
returns-then-past-at-clause-found c =
    let kept = c.requires.kept in
    let levels = rw c.deref.ensures.value at c.past_missed.ensures.missed in
    found-missed _ _ _ _ c.args.at c.min-past.result (omega (arith, c.if-past-at.true))
    (levels c.args.search.now.boxes.now c.args.self.now.order.items c.args.self.now.grouped c.min-past.result kept.levels (omega (arith, c.min-past.ensures)) (omega (arith, c.min-past.ensures)))
