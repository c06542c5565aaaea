use Rattle.httpedge.proofs.Exchanges.{heads-in-turn}
use Rattle.httpedge.proofs.laws.heads_in_turn.Goals as goal

pub returns : goal.returns
returns c = heads-in-turn
