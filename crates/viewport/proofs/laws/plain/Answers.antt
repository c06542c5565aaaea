use Rattle.viewport.proofs.Plain.{plain-law}
use Rattle.viewport.proofs.laws.plain.Goals as goal

pub returns : goal.returns
returns c = plain-law
