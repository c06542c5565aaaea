use Rattle.geom.proofs.Together.{shared-cancel}
use Rattle.geom.proofs.laws.shared_edges_cancel.Goals as goal

pub returns : goal.returns
returns c = shared-cancel
