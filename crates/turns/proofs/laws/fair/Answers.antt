use Rattle.turns.proofs.Order.{fair}
use Rattle.turns.proofs.laws.fair.Goals as goal

pub returns : goal.returns
returns c = fair
