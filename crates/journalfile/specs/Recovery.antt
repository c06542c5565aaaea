-- The opening of a journal (docs/SERVICE.md, "Journal").
use Rattle.std.specs.Prelude.{◌≡◌, ◌⊎◌, ℕ, ◌+◌, ◌<◌, ◌≤◌, List, ◌++◌, Some, None, length, drop}
use Rattle.sha2.specs.Sha256.{sha256}
use Rattle.batches.specs.Batch.{State, accepted}
use Rattle.sharing.specs.Sharing.{after}
use Rattle.journal.specs.Header.{IsHeaderFault, StartsWith}
use Rattle.journal.specs.Name.{name_bytes, written_of}
use Rattle.journal.specs.Record.{header, records, journal_of}
use Rattle.journal.specs.Reading.{StartsWithNumber, ContainsRecord, Reads, IsTorn, StandsFor}
use Rattle.journal.specs.declared.header.HeaderFault.{HeaderFault}
use Rattle.journal.specs.declared.header.HeaderFault.TheVariants as header_fault
use Rattle.journal.specs.declared.name.JournalName.{JournalName}
use Rattle.journalfile.specs.Log.{Only}
use Rattle.journalfile.specs.declared.recovery.Recovered.{Recovered}
use Rattle.journalfile.specs.declared.recovery.RecoverFault.{RecoverFault}
use Rattle.journalfile.specs.declared.recovery.RecoverFault.TheVariants as recover_fault
use Rattle.journalfile.specs.declared.recovery.Judged.{Judged}

module _ (name : List ℕ) where
  -- the batches of some records, as many as the count, led from one state to another. Where the log is reliable, they stand in the file from one
  -- offset to another, and the next record doesn't follow
  pub record HasReplayed (reliable : Type 0) (file : List ℕ) (start : ℕ) (first last : State) (count end : ℕ) : Type 0 where
    pub batches : List (List ℕ)
    pub counted : count ≡ length batches
    pub after : after accepted first batches ≡ Some last
    pub inside : reliable → end ≤ length file
    pub split : reliable → drop start file ≡ records sha256 name 1 batches ++ drop end file
    pub longest : reliable → StartsWithNumber sha256 name (count + 1) (drop end file) → ⊥

  -- some bytes begin with the records of some batches, of which the last, whose number this is, isn't accepted
  abbrev pub IsRefusedAt : List ℕ → State → ℕ → Type 0
  IsRefusedAt bytes old number =
      (batches : List (List ℕ)) × (rest : List ℕ) × (bytes ≡ records sha256 name 1 batches ++ rest) × (number ≡ length batches) × (after accepted old batches ≡ None)

  -- a batch isn't accepted, memory was refused or the log failed
  abbrev pub IsReplayFault : {F : Type 0} → List ℕ → State → RecoverFault F → Type 0
  IsReplayFault bytes old (recover_fault.Header fault) = ⊥
  IsReplayFault bytes old (recover_fault.Damaged count) = ⊥
  IsReplayFault bytes old (recover_fault.Refused number) = IsRefusedAt bytes old number
  IsReplayFault bytes old recover_fault.NoMemory = Unit {0}
  IsReplayFault bytes old (recover_fault.Failed failure) = Unit {0}

module _ (name : JournalName) where
  -- the batches of a journal led from one state to another, and none is missing that was written with its header. Where the log is reliable, the file is
  -- their journal up to an offset, and a torn tail
  pub record HasJudged (reliable : Type 0) (file : List ℕ) (first last : State) (judged : Judged) : Type 0 where
    pub batches : List (List ℕ)
    pub counted : judged.count ≡ length batches
    pub after : after accepted first batches ≡ Some last
    pub enough : written_of name.compaction ≤ length batches
    pub whole : reliable → file ≡ journal_of sha256 (name_bytes name) batches ++ drop judged.end file
    pub torn : reliable → IsTorn sha256 (name_bytes name) (drop judged.end file)
    pub ends : reliable → judged.end + judged.cut ≡ length file

  module _ {L : Type 0} (content : L → List ℕ) where
    -- the machine is in the state after some batches, as many as the count, and none is missing that was written with the header. Where the log is
    -- reliable, the bytes stood for them, and the log has their journal now, which each crash leaves; so many bytes of a torn tail were cut off
    pub record HasRecovered (reliable : Type 0) (may_leave : L → List ℕ → Type 0) (old new : L) (first last : State) (recovered : Recovered) : Type 0 where
      pub batches : List (List ℕ)
      pub counted : recovered.count ≡ length batches
      pub after : after accepted first batches ≡ Some last
      pub enough : written_of name.compaction ≤ length batches
      pub stood : reliable → StandsFor name (content old) batches
      pub journal : reliable → content new ≡ journal_of sha256 (name_bytes name) batches
      pub durable : reliable → Only (content new) (may_leave new)
      pub cut : reliable → length (content old) ≡ length (content new) + recovered.cut
      pub long : reliable → length (content new) ≡ recovered.length

    -- the header isn't that of the journal
    abbrev pub IsOtherHeader : L → HeaderFault → Type 0
    IsOtherHeader old header_fault.NotAJournal = IsHeaderFault name.fingerprint (content old) header_fault.NotAJournal
    IsOtherHeader old header_fault.EarlierForm = IsHeaderFault name.fingerprint (content old) header_fault.EarlierForm
    IsOtherHeader old header_fault.Damaged = IsHeaderFault name.fingerprint (content old) header_fault.Damaged
    IsOtherHeader old header_fault.OtherMap = StartsWith (header sha256 (name_bytes name)) (content old) → ⊥

    -- so many batches are read, and a whole record is in the bytes after them, or more batches were written with the header
    abbrev pub IsDamaged : L → ℕ → Type 0
    IsDamaged old count =
        (batches : List (List ℕ)) × (tail : List ℕ) × Reads sha256 (name_bytes name) (content old) batches tail
        × (ContainsRecord sha256 (name_bytes name) tail ⊎ length batches < written_of name.compaction) × (count ≡ length batches)

    -- why it isn't opened; the bytes are as they were, unless the log failed
    abbrev pub IsFaultOf : {F : Type 0} → L → L → State → RecoverFault F → Type 0
    IsFaultOf old new first (recover_fault.Header fault) = IsOtherHeader old fault × (content new ≡ content old)
    IsFaultOf old new first (recover_fault.Damaged count) = IsDamaged old count × (content new ≡ content old)
    IsFaultOf old new first (recover_fault.Refused number) =
        ((rest : List ℕ) × (content old ≡ header sha256 (name_bytes name) ++ rest) × IsRefusedAt (name_bytes name) rest first number) × (content new ≡ content old)
    IsFaultOf old new first recover_fault.NoMemory = content new ≡ content old
    IsFaultOf old new first (recover_fault.Failed failure) = Unit {0}

-- why the header isn't read: it is that of no journal of the map, memory was refused or the log failed
abbrev pub IsNameFault : {L F : Type 0} → List ℕ → (L → List ℕ) → L → L → RecoverFault F → Type 0
IsNameFault fingerprint content old new (recover_fault.Header fault) = IsHeaderFault fingerprint (content old) fault × (content new ≡ content old)
IsNameFault fingerprint content old new (recover_fault.Damaged count) = ⊥
IsNameFault fingerprint content old new (recover_fault.Refused number) = ⊥
IsNameFault fingerprint content old new recover_fault.NoMemory = content new ≡ content old
IsNameFault fingerprint content old new (recover_fault.Failed failure) = Unit {0}

-- memory was refused or the log failed
abbrev pub IsTransient : {F : Type 0} → RecoverFault F → Type 0
IsTransient (recover_fault.Header fault) = ⊥
IsTransient (recover_fault.Damaged count) = ⊥
IsTransient (recover_fault.Refused number) = ⊥
IsTransient recover_fault.NoMemory = Unit {0}
IsTransient (recover_fault.Failed failure) = Unit {0}
