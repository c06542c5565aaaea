use Rattle.geom.proofs.Lines.{crosses-line}
use Rattle.geom.proofs.laws.crossings_lie_on_the_line.Goals as goal

pub returns : goal.returns
returns c = crosses-line
