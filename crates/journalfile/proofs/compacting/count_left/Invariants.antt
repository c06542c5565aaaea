use Rattle.std.proofs.Common.{◌≡◌, ℕ, ◌-◌, ◌≤◌, List, length}
use Rattle.sha2.specs.Sha256.{sha256}
use Rattle.compaction.specs.Compacted.{commands_of}
use Rattle.compaction.specs.LastChanges.{AreLast}
use Rattle.journal.specs.Name.{name_bytes}
use Rattle.journal.specs.Record.{journal_of}
use Rattle.journalfile.specs.Compacting.{HasLeft}
use Rattle.journalfile.specs.Frames.{IsAhead, IsRead}
use Rattle.journalfile.proofs.compacting.count_left.Given as goal

-- the count is that of the batches left of those that were read
abbrev pub invariant-loop-reader : goal.invariant-loop-reader
invariant-loop-reader g l = record {
  few : l.count ≤ l.reader.number;
  fewer : l.reader.number ≤ l.records.count;
  ahead : g.L.Log.reliable → IsAhead (g.L.Log.content l.fn.log) l.reader.frames;
  so_far : g.L.Log.reliable → (all : List (List ℕ)) → g.L.Log.content l.fn.log ≡ journal_of sha256 (name_bytes l.records.name) all → AreLast l.changes (commands_of all)
      → (written : List (List ℕ)) × HasLeft (g.L.Log.content l.fn.log) all written l.reader × (l.count ≡ length written);
  read : g.L.Log.reliable → IsRead g.L.Log.content g.L.Log.may_leave g.L.Log.moment g.L.Log.left_since l.fn.log l.log;
}

abbrev pub decreases-loop-reader : goal.decreases-loop-reader
decreases-loop-reader g l = l.records.count - l.reader.number
