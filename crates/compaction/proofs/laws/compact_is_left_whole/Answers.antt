use Rattle.compaction.proofs.Compact.{left_as_they_are, stay_compact}
use Rattle.compaction.proofs.laws.compact_is_left_whole.Goals as goal

pub returns : goal.returns
returns c = record { whole = left_as_they_are; again = stay_compact }
