use Rattle.turns.proofs.Runs.{turns-stay}
use Rattle.turns.proofs.laws.turns_stay.Goals as goal

pub returns : goal.returns
returns g c = turns-stay g.A.Asks.answers g.T.Transport
