use Rattle.featureinfo.proofs.Reaching.{not-far}
use Rattle.featureinfo.proofs.laws.far.Goals as goal

pub returns : goal.returns
returns c = λ view k parts n near. not-far view k parts n near.column near.row (record { left = near.left; right = near.right; top = near.top; bottom = near.bottom }) near.passes
