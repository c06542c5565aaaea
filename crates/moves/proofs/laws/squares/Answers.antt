use Rattle.moves.proofs.Lines.{squares-move}
use Rattle.moves.proofs.laws.squares.Goals as goal

pub returns : goal.returns
returns c = squares-move
