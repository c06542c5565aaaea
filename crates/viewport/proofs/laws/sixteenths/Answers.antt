use Rattle.viewport.proofs.Quotients.{sixteenths-law}
use Rattle.viewport.proofs.laws.sixteenths.Goals as goal

pub returns : goal.returns
returns c = sixteenths-law
