use Rattle.strokes.proofs.Sequences.{columns}
use Rattle.strokes.proofs.laws.flat.Goals as goal

pub returns : goal.returns
returns c = columns
