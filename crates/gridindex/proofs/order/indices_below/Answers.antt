use Rattle.std.proofs.Common.{◌≡◌, arith}
use Rattle.gridindex.proofs.Orders.{order-none, order-more}
use Rattle.gridindex.proofs.order.indices_below.Goals as goal

pub loop-index-init : goal.loop-index-init
loop-index-init c = rw c.in_ok-order.ensures.items order-none

pub loop-index-preserved : goal.loop-index-preserved
loop-index-preserved c = rw c.in_ok-push.ensures.items (order-more c.loop-index.index c.loop-index.order.items c.loop-index.invariant)

pub returns : goal.returns
returns c = let e : c.loop-index.index ≡ c.args.count = omega (arith, c.loop-index-test.false, c.loop-index.auto.index-end) in rw (← e) c.loop-index.invariant
