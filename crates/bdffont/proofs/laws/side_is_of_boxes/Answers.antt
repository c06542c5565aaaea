use Rattle.bdffont.proofs.Within.{side-is-of-boxes}
use Rattle.bdffont.proofs.laws.side_is_of_boxes.Goals as goal

pub returns : goal.returns
returns c = side-is-of-boxes
