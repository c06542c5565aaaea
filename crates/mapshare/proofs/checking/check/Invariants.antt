use Rattle.std.proofs.Common.{◌≡◌, ◌≤◌, Some, MatchOption, take}
use Rattle.batches.specs.Batch.{accepted}
use Rattle.sharing.specs.Sharing.{after}
use Rattle.journal.specs.Texts.{texts_of}
use Rattle.mapshare.specs.Checking.{last_of}
use Rattle.mapshare.proofs.checking.check.Given as goal

-- the batches so far are accepted, and led to the last machine
abbrev pub invariant-loop-count : goal.invariant-loop-count
invariant-loop-count l = record {
  leads : after accepted l.machine (take l.count (texts_of l.batches)) ≡ Some (last_of l.machine l.last);
  some : MatchOption l.last (l.count ≡ 0) (λ _. 1 ≤ l.count);
  room : l.count ≤ l.room;
}
