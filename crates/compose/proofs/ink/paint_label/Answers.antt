use Rattle.canvas.proofs.Painting.{painted-none}
use Rattle.compose.proofs.ink.paint_label.Goals as goal

pub returns-in-None : goal.returns-in-None
returns-in-None c = rw c.in-None.ensures (painted-none c.args.canvas.now)
