use Rattle.capabilities.proofs.Readings.{names-law}
use Rattle.capabilities.proofs.laws.names_are_read.Goals as goal

pub returns : goal.returns
returns c = names-law
