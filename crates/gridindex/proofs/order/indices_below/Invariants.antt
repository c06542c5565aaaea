use Rattle.gridindex.specs.Groups.{IsOrder}
use Rattle.gridindex.proofs.order.indices_below.Given as goal

-- each index so far is in the order, once
abbrev pub invariant-loop-index : goal.invariant-loop-index
invariant-loop-index l = IsOrder l.index l.order.items
