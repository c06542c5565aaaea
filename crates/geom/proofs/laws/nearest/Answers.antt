use Rattle.geom.proofs.Rounding.{nearest-law}
use Rattle.geom.proofs.laws.nearest.Goals as goal

pub returns : goal.returns
returns c = nearest-law
