use Rattle.geom.proofs.Turning.{turned-crosses}
use Rattle.geom.proofs.laws.turned_edges.Goals as goal

pub returns : goal.returns
returns c = turned-crosses
