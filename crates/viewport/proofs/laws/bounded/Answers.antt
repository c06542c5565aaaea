use Rattle.viewport.proofs.Rising.{bounded-law}
use Rattle.viewport.proofs.laws.bounded.Goals as goal

pub returns : goal.returns
returns c = bounded-law
