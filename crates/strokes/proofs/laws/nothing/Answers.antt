use Rattle.strokes.proofs.Sequences.{nothing}
use Rattle.strokes.proofs.laws.nothing.Goals as goal

pub returns : goal.returns
returns c = nothing
