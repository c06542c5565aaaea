use Rattle.strokes.proofs.RoundBack.{line-back}
use Rattle.strokes.proofs.laws.round_line_back.Goals as goal

pub returns : goal.returns
returns c = line-back
