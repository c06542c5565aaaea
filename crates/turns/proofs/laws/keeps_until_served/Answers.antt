use Rattle.turns.proofs.Runs.{keeps-until-served}
use Rattle.turns.proofs.laws.keeps_until_served.Goals as goal

pub returns : goal.returns
returns g c = keeps-until-served g.A.Asks.answers g.T.Transport
