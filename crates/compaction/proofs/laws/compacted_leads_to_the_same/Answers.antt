use Rattle.compaction.proofs.Leading.{leads_to_the_same}
use Rattle.compaction.proofs.laws.compacted_leads_to_the_same.Goals as goal

pub returns : goal.returns
returns c = leads_to_the_same
