use Rattle.moves.proofs.Texts.{ink-moves, outlines-move}
use Rattle.moves.proofs.laws.texts.Goals as goal

pub returns : goal.returns
returns c = record { ink = ink-moves; outlines = outlines-move }
