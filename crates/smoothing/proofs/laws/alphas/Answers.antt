use Rattle.smoothing.proofs.Between.{alpha-share}
use Rattle.smoothing.proofs.laws.alphas.Goals as goal

pub returns : goal.returns
returns c = alpha-share
