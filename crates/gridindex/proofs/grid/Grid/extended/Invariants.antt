use Rattle.std.proofs.Common.{◌≡◌, ◌++◌, take}
use Rattle.gridindex.proofs.grid.Grid.extended.Given as goal

-- after the boxes come the others so far
abbrev pub invariant-loop-area : goal.invariant-loop-area
invariant-loop-area l = l.grid ≡ l.self ++ take l.area-index l.more
