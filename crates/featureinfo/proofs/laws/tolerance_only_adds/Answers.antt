use Rattle.featureinfo.proofs.Tolerances.{tolerance-only-adds}
use Rattle.featureinfo.proofs.laws.tolerance_only_adds.Goals as goal

pub returns : goal.returns
returns c = tolerance-only-adds
