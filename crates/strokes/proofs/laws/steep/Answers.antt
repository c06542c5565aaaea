use Rattle.strokes.proofs.Sequences.{rows}
use Rattle.strokes.proofs.laws.steep.Goals as goal

pub returns : goal.returns
returns c = rows
