use Rattle.canvas.proofs.Painting.{painted-none}
use Rattle.compose.proofs.block.paint_shown.Goals as goal

pub returns-in-None : goal.returns-in-None
returns-in-None c = rw c.in-None.ensures (painted-none c.args.canvas.now)
