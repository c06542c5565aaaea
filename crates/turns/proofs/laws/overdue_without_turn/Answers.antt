use Rattle.turns.proofs.Ranks.{neither-pending}
use Rattle.turns.proofs.laws.overdue_without_turn.Goals as goal

pub returns : goal.returns
returns g c = λ now table slot is. neither-pending table slot is.0
