use Rattle.featureinfo.proofs.OneHitList.{one-hit-list}
use Rattle.featureinfo.proofs.laws.one_hit_list.Goals as goal

pub returns : goal.returns
returns c = one-hit-list
