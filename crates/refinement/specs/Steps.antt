-- The calls of a service with a journal as events of its lives (docs/SERVICE.md, "Journal").
use Rattle.std.specs.Prelude.{◌≡◌, ℕ, ◌≤◌, List, [], ◌∷◌, ◌++◌, length, map, take, Option, Some}
use mathlib.Core.List.{IsPrefix}
use Rattle.batches.specs.Batch.{State, accepted}
use Rattle.compaction.specs.Compacted.{skipping}
use Rattle.durability.specs.Service.{Event, IsRun, Published, Service}
use Rattle.durability.specs.Service.Event.{Checkpoint, Crash, Retry, Start, Submit}
use Rattle.durability.specs.Service.Service.{Running, Stopped}
use Rattle.journal.specs.Name.{IsBounded, skipped_of}
use Rattle.journal.specs.Reading.{StandsFor}
use Rattle.journal.specs.declared.name.JournalName.{JournalName}
use Rattle.journalfile.specs.Compacting.{HasCompacted, StandsForLeft}
use Rattle.journalfile.specs.Recovery.{HasRecovered}
use Rattle.journalfile.specs.Settled.{IsSettled}
use Rattle.journalfile.specs.declared.reading.NotCompacted.{NotCompacted}
use Rattle.journalfile.specs.declared.recovery.Recovered.{Recovered}
use Rattle.journalfile.specs.declared.writing.Journal.{Journal}
use Rattle.mapshare.specs.Admin.{Batches, HasAccepted, IsAccepted, IsPublished, all_of, with_batches}
use Rattle.mapshare.specs.declared.checking.Accepted.{Accepted}
use Rattle.sharing.specs.Sharing.{after}
use Rattle.sharing.specs.Shortened.{IsShortOf}

-- a service that runs with a journal of this name, which has these batches of its own, and with an administrator's batches
abbrev pub running : JournalName → List (List ℕ) → Batches → Service
running name own admin = Running (record { compaction = name.compaction; own = own }) (all_of admin) admin.published

-- a journal of a name has the batches of an administrator, or fewer that lead to the same state
abbrev pub HasBatches : JournalName → List (List ℕ) → Batches → Type 0
HasBatches name own admin = IsShortOf accepted skipping (skipped_of name.compaction) own (all_of admin)

-- the events, and what is published by them, lead from one service to another, where the map begins in a state
abbrev pub LeadTo : JournalName → State → Service → List Event → List (Published State) → Service → Type 0
LeadTo name start old events published new = IsRun accepted skipping name.fingerprint start old events published new

-- batches that are accepted and kept together are submitted one after the other
abbrev pub IsSubmits : Type 0 → Type 0
IsSubmits L =
    (start : State) (old new : Batches) (journal grown : Journal L) (own batches : List (List ℕ)) (found : Accepted)
    → HasBatches journal.name own old → HasAccepted start old batches found new → grown.name ≡ journal.name
    → LeadTo journal.name start (running journal.name own old) (map Submit (take found.count batches)) [] (running grown.name (own ++ take found.count batches) new)

-- where a crash comes while some batches are kept, or the log fails at that, the file stands for the first of them, or none: they are submitted, and the
-- service stops at one
abbrev pub BreaksSubmits : Type 0 → Type 0
BreaksSubmits L =
    (start : State) (old : Batches) (journal : Journal L) (own batches first : List (List ℕ)) (file : List ℕ)
    → HasBatches journal.name own old → IsBounded journal.name.compaction → 1 ≤ length batches → IsPrefix first batches
    → IsAccepted start (with_batches first old) → StandsFor journal.name file (own ++ first)
    → LeadTo journal.name start (running journal.name own old) (map Submit batches) [] (Stopped (all_of old ++ first) file)

-- what is published is a retry
abbrev pub IsRetry : Type 0 → Type 0
IsRetry L =
    (start last : State) (old new : Batches) (journal : Journal L) (own receipt : List (List ℕ))
    → HasBatches journal.name own old → after accepted start (all_of old) ≡ Some last → IsPublished old receipt new
    → LeadTo journal.name start (running journal.name own old) (Retry ∷ []) (record { batches = receipt; state = last } ∷ []) (running journal.name own new)

-- a journal that was compacted, or wasn't, had a checkpoint, and has the batches that it had
abbrev pub IsCheckpointOf : {L : Type 0} → (L → List ℕ) → (L → List ℕ → Type 0) → Type 0
IsCheckpointOf {L} content may_leave =
    (start : State) (admin : Batches) (old new : Journal L) (own : List (List ℕ)) (why : Option NotCompacted)
    → HasBatches old.name own admin → IsSettled content may_leave old own → HasCompacted content may_leave old new own why
    → (left : List (List ℕ)) × IsSettled content may_leave new left × HasBatches new.name left admin
    × LeadTo old.name start (running old.name own admin) (Checkpoint ∷ []) [] (running new.name left admin)

-- where a crash comes while it is compacted, or the log fails at that, it stops at a checkpoint
abbrev pub StopsCheckpoint : Type 0 → Type 0
StopsCheckpoint L =
    (start : State) (admin : Batches) (journal : Journal L) (own : List (List ℕ)) (file : List ℕ)
    → HasBatches journal.name own admin → IsBounded journal.name.compaction → StandsForLeft journal.name own file
    → LeadTo journal.name start (running journal.name own admin) (Checkpoint ∷ []) [] (Stopped (all_of admin) file)

-- the bytes that are left of a settled journal are those of a crash
abbrev pub IsCrash : {L : Type 0} → (L → List ℕ) → (L → List ℕ → Type 0) → Type 0
IsCrash {L} content may_leave =
    (start : State) (admin : Batches) (journal : Journal L) (own : List (List ℕ)) (file : List ℕ)
    → IsSettled content may_leave journal own → may_leave journal.log file
    → LeadTo journal.name start (running journal.name own admin) (Crash ∷ []) [] (Stopped (all_of admin) file)

-- a journal that was recovered from a file is started with, and the state after its batches is published
abbrev pub IsStart : {L : Type 0} → (L → List ℕ) → (L → List ℕ → Type 0) → Type 0
IsStart {L} content may_leave =
    (start last : State) (name : JournalName) (old new : L) (batches : List (List ℕ)) (recovered : Recovered)
    → IsBounded name.compaction → HasRecovered name content (Unit {0}) may_leave old new (skipping (skipped_of name.compaction) start) last recovered
    → (own : List (List ℕ)) × LeadTo name start (Stopped batches (content old)) (Start ∷ [])
    (record { batches = batches; state = last } ∷ []) (Running (record { compaction = name.compaction; own = own }) batches batches)
