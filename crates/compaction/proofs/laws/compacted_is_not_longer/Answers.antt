use Rattle.compaction.proofs.Reading.{not_longer}
use Rattle.compaction.proofs.laws.compacted_is_not_longer.Goals as goal

pub returns : goal.returns
returns c = not_longer
