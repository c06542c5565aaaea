use Rattle.std.proofs.Common.{◌≡◌, ℕ, ◌+◌, ◌-◌, ◌<◌, ◌≤◌, ◌^◌, List, ◌++◌, Some, length, drop}
use Rattle.sha2.specs.Sha256.{sha256}
use Rattle.journal.specs.Name.{name_bytes}
use Rattle.journal.specs.Record.{records}
use Rattle.sharing.specs.Sharing.{after}
use Rattle.batches.specs.Batch.{accepted}
use Rattle.journalfile.specs.Frames.{IsAhead, IsRead}
use Rattle.journalfile.proofs.recovery.replay.Given as goal

-- the batches so far led to the machine's state, and the bytes that are left follow their records
abbrev pub invariant-loop-batch : goal.invariant-loop-batch
invariant-loop-batch g l = record {
  so_far : (batches : List (List ℕ)) × (l.count ≡ length batches) × (after accepted l.fn.machine batches ≡ Some l.machine)
      × (g.L.Log.reliable → drop l.fn.frames.position (g.L.Log.content l.fn.log) ≡ records sha256 (name_bytes l.name) 1 batches ++ drop l.frames.position (g.L.Log.content l.fn.log));
  end : l.end ≡ l.frames.position;
  room : l.count + l.count ≤ l.frames.position;
  bound : l.frames.position < 2 ^ 64;
  ahead : g.L.Log.reliable → IsAhead (g.L.Log.content l.fn.log) l.frames;
  read : g.L.Log.reliable → IsRead g.L.Log.content g.L.Log.may_leave g.L.Log.moment g.L.Log.left_since l.fn.log l.log;
}

abbrev pub decreases-loop-batch : goal.decreases-loop-batch
decreases-loop-batch g l = 2 ^ 64 - l.frames.position
