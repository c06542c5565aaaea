use Rattle.strokes.proofs.Discs.{round-points}
use Rattle.strokes.proofs.laws.disc_round_point.Goals as goal

pub returns : goal.returns
returns c = round-points
