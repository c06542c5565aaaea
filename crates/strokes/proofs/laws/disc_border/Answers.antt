use Rattle.strokes.proofs.Discs.{borders}
use Rattle.strokes.proofs.laws.disc_border.Goals as goal

pub returns : goal.returns
returns c = borders
