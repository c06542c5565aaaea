use Rattle.std.proofs.Common.{◌≡◌, ◌+◌, ◌≤◌, length}
use Rattle.batches.specs.Batch.{after_reading, batch}
use Rattle.batches.specs.Command.{reading_of}
use Rattle.batches.proofs.applying.apply_commands.Given as goal

-- the commands that were done and those that remain are all
abbrev pub invariant-loop-rest : goal.invariant-loop-rest
invariant-loop-rest l = record {
  result : after_reading l.index (reading_of l.rest) l.draft ≡ batch l.bytes l.fn.draft;
  count : l.index + length l.rest ≤ 1 + length l.bytes;
}

abbrev pub decreases-loop-rest : goal.decreases-loop-rest
decreases-loop-rest l = length l.rest
