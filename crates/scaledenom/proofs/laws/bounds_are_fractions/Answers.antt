use Rattle.scaledenom.proofs.Bounds.{bounds-law}
use Rattle.scaledenom.proofs.laws.bounds_are_fractions.Goals as goal

pub returns : goal.returns
returns c = bounds-law
