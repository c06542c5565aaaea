use Rattle.std.specs.Prelude.{◌≡◌, List, ◌++◌, length}
use Rattle.batches.specs.declared.command.Command.{Command}
use Rattle.compaction.specs.Compacted.{commands_in, compacted_batch}
use Rattle.compaction.specs.LastChanges.{AreLast}
use Rattle.compaction.proofs.Adding.{HaveAdded}
use Rattle.compaction.proofs.last_changes.LastChanges.add_left.Given as goal

-- what was added and what is left of the rest are what is left of the batch
abbrev pub invariant-loop-rest : goal.invariant-loop-rest
invariant-loop-rest l =
    (earlier later : List Command) → AreLast l.self (earlier ++ (commands_in l.batch ++ later)) → l.before ≡ length earlier
    → HaveAdded l.self l.count l.rest l.out.items (l.fn.out.items ++ compacted_batch l.batch later) later (earlier ++ commands_in l.batch)

abbrev pub decreases-loop-rest : goal.decreases-loop-rest
decreases-loop-rest l = length l.rest
