use Rattle.smoothing.proofs.Between.{one-same}
use Rattle.smoothing.proofs.laws.factor_one.Goals as goal

pub returns : goal.returns
returns c = one-same
