use Rattle.smoothing.proofs.Equal.{mean-same}
use Rattle.smoothing.proofs.laws.equal_pixels.Goals as goal

pub returns : goal.returns
returns c = mean-same
