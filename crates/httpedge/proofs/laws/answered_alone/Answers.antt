use Rattle.httpedge.proofs.Alone.{answered-alone}
use Rattle.httpedge.proofs.laws.answered_alone.Goals as goal

pub returns : goal.returns
returns c = answered-alone 999
