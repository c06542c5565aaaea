use Rattle.crsaxes.proofs.Lengths.{rounded-law}
use Rattle.crsaxes.proofs.laws.metres_are_rounded.Goals as goal

pub returns : goal.returns
returns c = rounded-law
