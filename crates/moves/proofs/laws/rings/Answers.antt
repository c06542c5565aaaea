use Rattle.moves.proofs.Rings.{rings-move}
use Rattle.moves.proofs.laws.rings.Goals as goal

pub returns : goal.returns
returns c = rings-move
