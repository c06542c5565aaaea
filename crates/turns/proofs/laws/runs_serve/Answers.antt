use Rattle.turns.proofs.Runs.{runs-serve}
use Rattle.turns.proofs.laws.runs_serve.Goals as goal

pub returns : goal.returns
returns g c = runs-serve g.A.Asks.answers g.T.Transport
