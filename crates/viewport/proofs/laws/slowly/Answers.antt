use Rattle.viewport.proofs.Rising.{slowly-law}
use Rattle.viewport.proofs.laws.slowly.Goals as goal

pub returns : goal.returns
returns c = slowly-law
