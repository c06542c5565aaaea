use Rattle.viewport.proofs.Windows.{beginnings-law}
use Rattle.viewport.proofs.laws.beginnings.Goals as goal

pub returns : goal.returns
returns c = beginnings-law
