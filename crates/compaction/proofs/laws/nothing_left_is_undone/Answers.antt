use Rattle.compaction.proofs.Compact.{become_compact}
use Rattle.compaction.proofs.laws.nothing_left_is_undone.Goals as goal

pub returns : goal.returns
returns c = become_compact
