use Rattle.strokes.proofs.OnLine.{steep-line}
use Rattle.strokes.proofs.laws.steep_along_its_line.Goals as goal

pub returns : goal.returns
returns c = steep-line
