use Rattle.crsaxes.proofs.Lengths.{read-law}
use Rattle.crsaxes.proofs.laws.metres_are_read.Goals as goal

pub returns : goal.returns
returns c = read-law
