use Rattle.viewport.proofs.Windows.{window-law}
use Rattle.viewport.proofs.laws.window.Goals as goal

pub returns : goal.returns
returns c = window-law
