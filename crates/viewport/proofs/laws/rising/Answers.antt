use Rattle.viewport.proofs.Rising.{rising-law}
use Rattle.viewport.proofs.laws.rising.Goals as goal

pub returns : goal.returns
returns c = rising-law
