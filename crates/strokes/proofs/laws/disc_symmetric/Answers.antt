use Rattle.strokes.proofs.Discs.{symmetric}
use Rattle.strokes.proofs.laws.disc_symmetric.Goals as goal

pub returns : goal.returns
returns c = symmetric
