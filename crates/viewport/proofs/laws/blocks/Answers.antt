use Rattle.viewport.proofs.Windows.{blocks-law}
use Rattle.viewport.proofs.laws.blocks.Goals as goal

pub returns : goal.returns
returns c = blocks-law
