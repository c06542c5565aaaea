use Rattle.moves.proofs.Lines.{lines-are-moved, lines-move}
use Rattle.moves.proofs.laws.lines.Goals as goal

pub returns : goal.returns
returns c = record { is = lines-are-moved; covers = lines-move }
