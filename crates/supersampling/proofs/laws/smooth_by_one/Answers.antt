use Rattle.supersampling.proofs.Smoothing.{smooth-by-one}
use Rattle.supersampling.proofs.laws.smooth_by_one.Goals as goal

pub returns : goal.returns
returns c = smooth-by-one
