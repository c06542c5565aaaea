use Rattle.scaledenom.proofs.Bounds.{one-of-two}
use Rattle.scaledenom.proofs.laws.one_of_two_is_visible.Goals as goal

pub returns : goal.returns
returns c = one-of-two
