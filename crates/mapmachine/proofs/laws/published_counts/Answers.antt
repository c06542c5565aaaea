use Rattle.mapmachine.proofs.Counting.{counted}
use Rattle.mapmachine.proofs.laws.published_counts.Goals as goal

pub returns : goal.returns
returns c = counted
