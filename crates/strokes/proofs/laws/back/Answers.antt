use Rattle.strokes.proofs.Sequences.{back}
use Rattle.strokes.proofs.laws.back.Goals as goal

pub returns : goal.returns
returns c = back
