use Rattle.geom.proofs.Together.{inside-turned}
use Rattle.geom.proofs.laws.rings_go_either_way.Goals as goal

pub returns : goal.returns
returns c = inside-turned
