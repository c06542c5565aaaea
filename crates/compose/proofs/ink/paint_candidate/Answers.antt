use Rattle.compose.proofs.Labelling.{text-unwritten}
use Rattle.compose.proofs.ink.paint_candidate.Goals as goal

pub returns-in-None : goal.returns-in-None
returns-in-None c = text-unwritten c.args.fonts.now c.args.candidate.now c.args.at c.args.canvas.now (rw c.label.ensures.value at c.in-None.ensures)
