use Rattle.strokes.proofs.RoundNear.{near-law}
use Rattle.strokes.proofs.laws.round_near.Goals as goal

pub returns : goal.returns
returns c = near-law
