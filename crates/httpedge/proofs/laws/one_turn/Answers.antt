use Rattle.httpedge.proofs.Heads.{turn-is-one}
use Rattle.httpedge.proofs.laws.one_turn.Goals as goal

pub returns : goal.returns
returns c = turn-is-one
