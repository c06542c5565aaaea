use Rattle.scaledenom.proofs.Bounds.{worked-metres}
use Rattle.scaledenom.proofs.laws.worked_metres.Goals as goal

pub returns : goal.returns
returns c = worked-metres
