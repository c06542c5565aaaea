use Rattle.maptree.proofs.FirstFault.{first_fault}
use Rattle.maptree.proofs.laws.first_fault_is_reported.Goals as goal

pub returns : goal.returns
returns c = first_fault
