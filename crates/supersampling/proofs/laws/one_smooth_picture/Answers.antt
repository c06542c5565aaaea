use Rattle.supersampling.proofs.Smoothing.{one-smooth-picture}
use Rattle.supersampling.proofs.laws.one_smooth_picture.Goals as goal

pub returns : goal.returns
returns c = one-smooth-picture
