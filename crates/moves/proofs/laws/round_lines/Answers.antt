use Rattle.moves.proofs.Rounds.{round_lines-are-moved, round_lines-move}
use Rattle.moves.proofs.laws.round_lines.Goals as goal

pub returns : goal.returns
returns c = record { is = round_lines-are-moved; covers = round_lines-move }
