use Rattle.gridindex.specs.Groups.{IsLevel}
use Rattle.gridindex.proofs.level.past_missed.Goals as goal

pub returns-then-end-at-clause-missed : goal.returns-then-end-at-clause-missed
returns-then-end-at-clause-missed c = λ boxes order grouped end kept inside last.
    let level = c.level-item.result in
    let is : IsLevel boxes order grouped level = rw c.level-item.is (kept c.loop-level.level-index level c.loop-level-test.true) in
    c.past_missed-end.ensures.missed boxes order grouped end is inside last
