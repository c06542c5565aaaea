use Rattle.moves.proofs.Edges.{pixel-of}
use Rattle.moves.proofs.laws.pixels.Goals as goal

pub returns : goal.returns
returns c = pixel-of
