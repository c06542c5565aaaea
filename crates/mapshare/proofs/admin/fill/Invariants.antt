use Rattle.std.proofs.Common.{◌≡◌, ◌++◌, drop}
use Rattle.mapshare.proofs.admin.fill.Given as goal

abbrev pub invariant-loop-replica : goal.invariant-loop-replica
invariant-loop-replica g l = (l.writer.desk ≡ l.initial.writer.desk)
    × (drop l.writer.behind l.writer.log.items ++ l.queue.items ≡ drop l.initial.writer.behind l.initial.writer.log.items ++ l.initial.queue.items)

abbrev pub decreases-loop-replica : goal.decreases-loop-replica
decreases-loop-replica g l = l.queue.len
