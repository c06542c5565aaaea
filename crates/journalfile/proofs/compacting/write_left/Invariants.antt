use Rattle.std.proofs.Common.{◌≡◌, ℕ, ◌-◌, ◌≤◌, List, [], length}
use Rattle.sha2.specs.Sha256.{sha256}
use Rattle.compaction.specs.Compacted.{commands_of}
use Rattle.compaction.specs.LastChanges.{AreLast}
use Rattle.journal.specs.Name.{name_bytes}
use Rattle.journal.specs.Record.{journal_of}
use Rattle.journalfile.specs.Compacting.{HasLeft}
use Rattle.journalfile.specs.Frames.{IsAhead, IsRead}
use Rattle.journalfile.specs.Settled.{NotesLength}
use Rattle.journalfile.proofs.compacting.write_left.Given as goal

-- the other journal has the batches left of those that were read
abbrev pub invariant-loop-reader : goal.invariant-loop-reader
invariant-loop-reader g l = record {
  named : l.successor.name ≡ l.fn.successor.name;
  fewer : l.reader.number ≤ l.records.count;
  ahead : g.L.Log.reliable → IsAhead (g.L.Log.content l.fn.log) l.reader.frames;
  so_far : g.L.Log.reliable → g.L.Log.content l.fn.successor.log ≡ [] → (all : List (List ℕ)) → g.L.Log.content l.fn.log ≡ journal_of sha256 (name_bytes l.records.name) all
      → AreLast l.changes (commands_of all)
      → (written : List (List ℕ)) × HasLeft (g.L.Log.content l.fn.log) all written l.reader
      × (g.L.Log.content l.successor.log ≡ journal_of sha256 (name_bytes l.fn.successor.name) written) × (l.successor.count ≡ length written);
  noted : g.L.Log.reliable → NotesLength g.L.Log.content l.fn.successor → NotesLength g.L.Log.content l.successor;
  read : g.L.Log.reliable → IsRead g.L.Log.content g.L.Log.may_leave g.L.Log.moment g.L.Log.left_since l.fn.log l.log;
}

abbrev pub decreases-loop-reader : goal.decreases-loop-reader
decreases-loop-reader g l = l.records.count - l.reader.number
