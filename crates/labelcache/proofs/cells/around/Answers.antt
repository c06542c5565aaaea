use Rattle.std.proofs.Common.{◌+◌, arith}
use Rattle.labelcache.proofs.Around.{first-or-last}
use Rattle.labelcache.proofs.Nesting.{cell-from}
use Rattle.labelcache.proofs.cells.around.Goals as goal

pub returns-clause-has : goal.returns-clause-has
returns-clause-has c = λ x near. rw (c.saturating_sub.ensures, c.from-distance.ensures) (first-or-last c.args.at c.args.distance x c.ranges.distance.fits near)

pub returns-clause-first : goal.returns-clause-first
returns-clause-first c = let a = cell-from c.saturating_sub.result 17 in omega (arith, a, c.saturating_sub.ensures, c.requires)

pub returns-clause-last : goal.returns-clause-last
returns-clause-last c = let a = cell-from (c.args.at + c.from-distance.result) 17 in omega (arith, a, c.from-distance.ensures, c.ranges.distance.fits, c.requires)
