use Rattle.turns.proofs.Ranks.{yields-without-turn}
use Rattle.turns.proofs.laws.yields_without_turn.Goals as goal

pub returns : goal.returns
returns g c = yields-without-turn
