use Rattle.capabilities.proofs.Readings.{titles-law}
use Rattle.capabilities.proofs.laws.titles_are_read.Goals as goal

pub returns : goal.returns
returns c = titles-law
