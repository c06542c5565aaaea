use Rattle.smoothing.proofs.Between.{mean-between}
use Rattle.smoothing.proofs.laws.between.Goals as goal

pub returns : goal.returns
returns c = mean-between
