use Rattle.strokes.proofs.OnLine.{flat-line}
use Rattle.strokes.proofs.laws.flat_along_its_line.Goals as goal

pub returns : goal.returns
returns c = flat-line
