use Rattle.geom.proofs.Written.{written-law}
use Rattle.geom.proofs.laws.written.Goals as goal

pub returns : goal.returns
returns c = written-law
