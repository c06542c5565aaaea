use Rattle.httpedge.proofs.Sessions.{law-starts}
use Rattle.turns.proofs.Runs.{runs-answer}
use Rattle.turns.proofs.laws.runs_answer.Goals as goal

pub returns : goal.returns
returns g c = runs-answer g.A.Asks.answers g.T.Transport law-starts
