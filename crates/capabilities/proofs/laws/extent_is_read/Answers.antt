use Rattle.capabilities.proofs.Boxes.{extent-law}
use Rattle.capabilities.proofs.laws.extent_is_read.Goals as goal

pub returns : goal.returns
returns c = extent-law
