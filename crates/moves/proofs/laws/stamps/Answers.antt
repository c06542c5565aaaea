use Rattle.moves.proofs.Stamps.{stamp-colours-move, stamps-move}
use Rattle.moves.proofs.laws.stamps.Goals as goal

pub returns : goal.returns
returns c = record { covers = stamps-move; colours = stamp-colours-move }
