use Rattle.viewport.proofs.Windows.{margins-law}
use Rattle.viewport.proofs.laws.margins.Goals as goal

pub returns : goal.returns
returns c = margins-law
