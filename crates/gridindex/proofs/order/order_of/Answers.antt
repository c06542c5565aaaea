use Rattle.std.proofs.Common.{length}
use Rattle.gridindex.proofs.Orders.{order-permuted}
use Rattle.gridindex.proofs.order.order_of.Goals as goal

pub returns : goal.returns
returns c = order-permuted (length c.args.boxes.now) c.in_ok-order.order.items c.sort_by_cached_key.new.self.items c.in_ok-sort_by_cached_key.ensures.permutation c.in_ok-order.ensures
