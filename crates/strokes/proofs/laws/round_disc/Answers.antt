use Rattle.strokes.proofs.RoundNear.{disc-law}
use Rattle.strokes.proofs.laws.round_disc.Goals as goal

pub returns : goal.returns
returns c = disc-law
