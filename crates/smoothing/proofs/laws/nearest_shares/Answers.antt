use Rattle.smoothing.proofs.Between.{nearest-is}
use Rattle.smoothing.proofs.laws.nearest_shares.Goals as goal

pub returns : goal.returns
returns c = nearest-is
