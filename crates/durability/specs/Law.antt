-- The promise of a service with a journal, whatever happens (docs/SERVICE.md, "Journal").
use Rattle.std.specs.Prelude.{◌≡◌, ◌⊎◌, ◌≤◌, ℕ, ◌+◌, List, [], ◌∷◌, length, All, Option, None, Some, IsSome}
use mathlib.Core.List.{IsPrefix}
use Rattle.sha2.specs.Sha256.{sha256}
use Rattle.journal.specs.Name.{IsBounded, journal_name, skipped_of, written_of}
use Rattle.journal.specs.Record.{header}
use Rattle.journal.specs.Reading.{StandsFor}
use Rattle.sharing.specs.Sharing.{after}
use Rattle.sharing.specs.Shortened.{IsShortOf}
use Rattle.durability.specs.Service.{Service, Event, Journal, Published, IsFileOf, IsRun, batches_of}
use Rattle.durability.specs.Service.Service.{Running, Stopped}
use Rattle.durability.specs.Service.Event.{Submit, Retry, Checkpoint, Crash, Start}

-- the batches that were submitted, in their order
abbrev pub submitted : List Event → List (List ℕ)
submitted [] = []
submitted (Submit batch ∷ events) = batch ∷ submitted events
submitted (Retry ∷ events) = submitted events
submitted (Checkpoint ∷ events) = submitted events
submitted (Crash ∷ events) = submitted events
submitted (Start ∷ events) = submitted events

-- some elements of a list, in its order
abbrev pub IsSublist : List (List ℕ) → List (List ℕ) → Type 0
IsSublist xs [] = xs ≡ []
IsSublist xs (y ∷ ys) = IsSublist xs ys ⊎ ((rest : List (List ℕ)) × (xs ≡ y ∷ rest) × IsSublist rest ys)

-- a journal has these batches, or fewer that lead to the same state, among them all that its compaction wrote
pub record IsJournalOf {S : Type 0} (accepted : S → List ℕ → Option S) (skipping : ℕ → S → S) (journal : Journal) (batches : List (List ℕ))
    : Type 0 where
  pub bounded : IsBounded journal.compaction
  pub whole : written_of journal.compaction ≤ length journal.own
  pub short : IsShortOf accepted skipping (skipped_of journal.compaction) journal.own batches

-- the service has all of its batches: by the journal that it runs with, or by the file that is left
abbrev pub HasBatches : {S : Type 0} → (S → List ℕ → Option S) → (ℕ → S → S) → List ℕ → Service → Type 0
HasBatches accepted skipping fingerprint (Running journal batches shown) = IsJournalOf accepted skipping journal batches
HasBatches accepted skipping fingerprint (Stopped batches file) =
    (journal : Journal) × IsFileOf fingerprint journal file × IsJournalOf accepted skipping journal batches

-- what was published are some first batches of these, and the state after them
pub record IsOf {S : Type 0} (accepted : S → List ℕ → Option S) (start : S) (batches : List (List ℕ)) (published : Published S) : Type 0 where
  pub first : IsPrefix published.batches batches
  pub state : after accepted start published.batches ≡ Some published.state

-- the batches of the service begin with all that was ever published, and each state that was published is the one after those published with it. Each
-- batch was submitted, in this order, and is accepted after those before it
pub record KeepsBatches {S : Type 0} (accepted : S → List ℕ → Option S) (skipping : ℕ → S → S) (fingerprint : List ℕ) (start : S)
    (service : Service) (published : List (Published S)) (given : List (List ℕ)) : Type 0 where
  pub has : HasBatches accepted skipping fingerprint service
  pub begins : All (IsOf accepted start (batches_of service)) published
  pub state : IsSome (after accepted start (batches_of service))
  pub part : IsSublist (batches_of service) given

-- none skipped changes nothing, and some skipped after others are all of them
pub record Skips {S : Type 0} (skipping : ℕ → S → S) : Type 0 where
  pub none : (s : S) → skipping 0 s ≡ s
  pub more : (a b : ℕ) (s : S) → skipping (a + b) s ≡ skipping b (skipping a s)

-- that holds after any events, from an empty journal on
abbrev pub IsDurable : {S : Type 0} → (S → List ℕ → Option S) → (ℕ → S → S) → List ℕ → S → Type 0
IsDurable accepted skipping fingerprint start = (events : List Event) (published : List (Published _)) (new : Service)
    → IsRun accepted skipping fingerprint start (Stopped [] (header sha256 fingerprint)) events published new
    → KeepsBatches accepted skipping fingerprint start new published (submitted events)

-- no checkpoint comes
abbrev pub HasNoCheckpoint : List Event → Type 0
HasNoCheckpoint [] = Unit {0}
HasNoCheckpoint (Submit batch ∷ events) = HasNoCheckpoint events
HasNoCheckpoint (Retry ∷ events) = HasNoCheckpoint events
HasNoCheckpoint (Checkpoint ∷ events) = ⊥
HasNoCheckpoint (Crash ∷ events) = HasNoCheckpoint events
HasNoCheckpoint (Start ∷ events) = HasNoCheckpoint events

-- the service runs with just its batches, or the file that is left stands for just these
abbrev pub HasAll : List ℕ → Service → Type 0
HasAll fingerprint (Running journal batches shown) = (journal.compaction ≡ None) × (journal.own ≡ batches)
HasAll fingerprint (Stopped batches file) = StandsFor (journal_name fingerprint None) file batches

-- until the first checkpoint the journal has all batches
abbrev pub IsWhole : {S : Type 0} → (S → List ℕ → Option S) → (ℕ → S → S) → List ℕ → S → Type 0
IsWhole accepted skipping fingerprint start = (events : List Event) (published : List (Published _)) (new : Service) → HasNoCheckpoint events
    → IsRun accepted skipping fingerprint start (Stopped [] (header sha256 fingerprint)) events published new
    → HasAll fingerprint new
