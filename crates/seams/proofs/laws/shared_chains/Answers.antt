use Rattle.seams.proofs.Chains.{shared-chains}
use Rattle.seams.proofs.laws.shared_chains.Goals as goal

pub returns : goal.returns
returns c = shared-chains
