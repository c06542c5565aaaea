use Rattle.geom.proofs.Together.{inside-together}
use Rattle.geom.proofs.laws.polygons_together.Goals as goal

pub returns : goal.returns
returns c = inside-together
