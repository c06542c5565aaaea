-- A service over all its lives: its batches, its events, and what it publishes (docs/SERVICE.md, "Journal").
use Rattle.std.specs.Prelude.{◌≡◌, ◌⊎◌, ◌≤◌, ℕ, ◌+◌, List, [], ◌∷◌, ◌++◌, length, Option, IsSome, IsSomeAnd}
use Rattle.sha2.specs.Sha256.{sha256}
use Rattle.journal.specs.Name.{IsBounded, journal_name, name_of, skipped_of, written_of}
use Rattle.journal.specs.Record.{journal_of}
use Rattle.journal.specs.Reading.{StandsFor}
use Rattle.journal.specs.declared.name.Compaction.{Compaction}
use Rattle.sharing.specs.Sharing.{after}
use Rattle.sharing.specs.Shortened.{IsShortOf}

-- the journal of a service: its batches, and its last compaction, which says how many fewer they are than those that were accepted
pub record Journal : Type 0 where
  pub compaction : Option Compaction
  pub own : List (List ℕ)

-- it runs with a journal and all batches that were accepted, of which readers are shown the first; or it has stopped after these, and this file is
-- left. The next start syncs and reads this file alone, since a start that ends before that does nothing
pub data Service : Type 0 where
  Running : (journal : Journal) (batches shown : List (List ℕ)) → Service
  Stopped : (batches : List (List ℕ)) (file : List ℕ) → Service

-- all batches that were accepted
abbrev pub batches_of : Service → List (List ℕ)
batches_of (Running journal batches shown) = batches
batches_of (Stopped batches file) = batches

-- a batch is submitted; the pending batches are to be published; the journal is due to be compacted; a crash comes between two calls; the service is
-- started
pub data Event : Type 0 where
  Submit : (batch : List ℕ) → Event
  Retry : Event
  Checkpoint : Event
  Crash : Event
  Start : Event

-- readers are shown a state, as the one after these batches
pub record Published (S : Type 0) : Type 0 where
  pub batches : List (List ℕ)
  pub state : S

-- the journal with a batch more
abbrev pub with_batch : Journal → List ℕ → Journal
with_batch journal batch = record journal { own = journal.own ++ batch ∷ [] }

-- a file stands for a journal
pub record IsFileOf (fingerprint : List ℕ) (journal : Journal) (file : List ℕ) : Type 0 where
  pub bounded : IsBounded journal.compaction
  pub stands : StandsFor (journal_name fingerprint journal.compaction) file journal.own

-- both files stand for the same journal
abbrev pub AreAlike : List ℕ → List ℕ → List ℕ → Type 0
AreAlike fingerprint file other = (journal : Journal) × IsFileOf fingerprint journal file × IsFileOf fingerprint journal other

module _ {S : Type 0} (accepted : S → List ℕ → Option S) (skipping : ℕ → S → S) (fingerprint : List ℕ) (start : S) where
  -- the state that a journal leads to, if each batch is accepted after those before it
  abbrev pub state_of : Journal → Option S
  state_of journal = after accepted (skipping (skipped_of journal.compaction) start) journal.own

  -- a journal is shorter than another one, or has as many batches: it has some fewer that lead to the same state, among them all that its compaction wrote
  pub record IsShorter (journal other : Journal) : Type 0 where
    pub bounded : IsBounded journal.compaction
    pub whole : written_of journal.compaction ≤ length journal.own
    pub more : ℕ
    pub counted : skipped_of journal.compaction ≡ skipped_of other.compaction + more
    pub short : IsShortOf accepted skipping more journal.own other.own

  -- readers are shown the state that the journal leads to, as the one after all batches
  abbrev pub ArePublished : Journal → List (List ℕ) → List (Published S) → Service → Type 0
  ArePublished journal batches published new =
      IsSomeAnd (state_of journal) (λ state. published ≡ record { batches = batches; state = state } ∷ []) × (new ≡ Running journal batches batches)

  -- nothing is published, and the service has these batches
  abbrev pub ArePending : Journal → List (List ℕ) → List (List ℕ) → List (Published S) → Service → Type 0
  ArePending journal batches shown published new = (published ≡ []) × (new ≡ Running journal batches shown)

  -- nothing is published, and the service has stopped
  abbrev pub HasStopped : List (List ℕ) → List ℕ → List (Published S) → Service → Type 0
  HasStopped batches file published new = (published ≡ []) × (new ≡ Stopped batches file)

  -- the file is left without the batch, or with it, which is accepted then
  abbrev pub MayBeLeft : Journal → List (List ℕ) → List ℕ → List ℕ → List (Published S) → Service → Type 0
  MayBeLeft journal batches batch file published new =
      (IsFileOf fingerprint journal file × HasStopped batches file published new)
      ⊎ (IsSome (state_of (with_batch journal batch)) × IsFileOf fingerprint (with_batch journal batch) file
      × HasStopped (batches ++ batch ∷ []) file published new)

  -- the possible results of a batch. It is refused or out of memory, and nothing has changed. Or it is accepted after those of the journal, and
  -- published with all before it or pending. Or the log fails or a crash comes first, and the file is left with it or without it
  abbrev pub IsSubmitted : Journal → List (List ℕ) → List (List ℕ) → List ℕ → List (Published S) → Service → Type 0
  IsSubmitted journal batches shown batch published new =
      ArePending journal batches shown published new
      ⊎ ((IsSome (state_of (with_batch journal batch))
      × (ArePublished (with_batch journal batch) (batches ++ batch ∷ []) published new
      ⊎ ArePending (with_batch journal batch) (batches ++ batch ∷ []) shown published new))
      ⊎ ((file : List ℕ) × MayBeLeft journal batches batch file published new))

  -- the possible results of a checkpoint. Nothing has changed. Or the journal is another one that is shorter. Or the log fails or a crash comes, and the
  -- file of the one or the other is left
  abbrev pub IsCheckpoint : Journal → List (List ℕ) → List (List ℕ) → List (Published S) → Service → Type 0
  IsCheckpoint journal batches shown published new =
      ArePending journal batches shown published new
      ⊎ (((other : Journal) × IsShorter other journal × ArePending other batches shown published new)
      ⊎ ((other : Journal) × (file : List ℕ) × IsShorter other journal × (IsFileOf fingerprint journal file ⊎ IsFileOf fingerprint other file)
      × HasStopped batches file published new))

  -- the possible results of a start. It publishes the state that the journal of the file leads to. Or it stops again, by a fault or a crash, and the
  -- file is left as it was or stands for the same journal
  abbrev pub IsStarted : List (List ℕ) → List ℕ → List (Published S) → Service → Type 0
  IsStarted batches file published new =
      ((journal : Journal) × IsFileOf fingerprint journal file × ArePublished journal batches published new)
      ⊎ ((other : List ℕ) × ((other ≡ file) ⊎ AreAlike fingerprint file other) × HasStopped batches other published new)

  -- the possible effects of an event, and what is published by it. A service that has stopped does nothing but start; one that runs doesn't start again
  abbrev pub IsStep : Service → Event → List (Published S) → Service → Type 0
  IsStep (Running journal batches shown) (Submit batch) published new = IsSubmitted journal batches shown batch published new
  IsStep (Running journal batches shown) Retry published new = ArePublished journal batches published new ⊎ ArePending journal batches shown published new
  IsStep (Running journal batches shown) Checkpoint published new = IsCheckpoint journal batches shown published new
  IsStep (Running journal batches shown) Crash published new =
      HasStopped batches (journal_of sha256 (name_of fingerprint journal.compaction) journal.own) published new
  IsStep (Running journal batches shown) Start published new = ArePending journal batches shown published new
  IsStep (Stopped batches file) Start published new = IsStarted batches file published new
  IsStep (Stopped batches file) (Submit batch) published new = HasStopped batches file published new
  IsStep (Stopped batches file) Retry published new = HasStopped batches file published new
  IsStep (Stopped batches file) Checkpoint published new = HasStopped batches file published new
  IsStep (Stopped batches file) Crash published new = HasStopped batches file published new

  -- the possible effects of some events, one after the other
  abbrev pub IsRun : Service → List Event → List (Published S) → Service → Type 0
  IsRun old [] published new = (published ≡ []) × (new ≡ old)
  IsRun old (event ∷ events) published new =
      (now later : List (Published S)) × (between : Service)
      × IsStep old event now between × IsRun between events later new × (published ≡ now ++ later)
