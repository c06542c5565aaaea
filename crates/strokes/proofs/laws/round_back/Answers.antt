use Rattle.strokes.proofs.RoundNear.{back-law}
use Rattle.strokes.proofs.laws.round_back.Goals as goal

pub returns : goal.returns
returns c = back-law
