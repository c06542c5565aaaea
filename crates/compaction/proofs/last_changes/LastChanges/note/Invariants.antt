use Rattle.std.specs.Prelude.{List, ◌++◌, length}
use Rattle.batches.specs.declared.command.Command.{Command}
use Rattle.compaction.specs.Compacted.{commands_in}
use Rattle.compaction.specs.LastChanges.{AreLast}
use Rattle.compaction.proofs.Adding.{HaveNoted}
use Rattle.compaction.proofs.last_changes.LastChanges.note.Given as goal

-- the commands that were noted and those that remain are all
abbrev pub invariant-loop-rest : goal.invariant-loop-rest
invariant-loop-rest l = (commands : List Command) → AreLast l.fn.self commands → HaveNoted l.self l.rest (commands ++ commands_in l.batch)

abbrev pub decreases-loop-rest : goal.decreases-loop-rest
decreases-loop-rest l = length l.rest
