use Rattle.geom.proofs.Lines.{crosses-further}
use Rattle.geom.proofs.laws.crossings_stay_left.Goals as goal

pub returns : goal.returns
returns c = crosses-further
