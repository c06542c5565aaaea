use Rattle.scaledenom.proofs.Bounds.{worked}
use Rattle.scaledenom.proofs.laws.worked_scale.Goals as goal

pub returns : goal.returns
returns c = worked
