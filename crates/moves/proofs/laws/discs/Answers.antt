use Rattle.moves.proofs.Rounds.{discs-move}
use Rattle.moves.proofs.laws.discs.Goals as goal

pub returns : goal.returns
returns c = discs-move
