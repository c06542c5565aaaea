use Rattle.compaction.proofs.Counting.{skipping-more, skipping-none}
use Rattle.compaction.proofs.laws.skipped_are_counted.Goals as goal

pub returns : goal.returns
returns c = record { none = skipping-none; more = skipping-more }
