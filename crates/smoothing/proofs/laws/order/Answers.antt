use Rattle.smoothing.proofs.Between.{order-same}
use Rattle.smoothing.proofs.laws.order.Goals as goal

pub returns : goal.returns
returns c = order-same
