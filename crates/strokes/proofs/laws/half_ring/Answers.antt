use Rattle.strokes.proofs.Discs.{half-rings}
use Rattle.strokes.proofs.laws.half_ring.Goals as goal

pub returns : goal.returns
returns c = half-rings
