-- The journal of a map that is served (docs/SERVICE.md, "Journal").
use Rattle.std.specs.Prelude.{◌≡◌, ◌⊎◌, ◌&&◌, ◌==◌, ◌+◌, ◌*◌, if◌then◌else◌, ℕ, Bool, true, false, not, MatchBool, List, [], ◌++◌, length, Option, None, Some, Err, codes}
use Rattle.std.specs.List.{flat_map}
use Rattle.std.specs.Fmt.{decimal}
use Rattle.sha2.specs.Sha256.{sha256}
use Rattle.batches.specs.Batch.{State, accepted}
use Rattle.sharing.specs.Sharing.{after}
use Rattle.journal.specs.Fingerprint.{sized, content_message}
use Rattle.journal.specs.Header.{StartsWith}
use Rattle.journal.specs.Name.{IsBounded, name_bytes, skipped_of}
use Rattle.journal.specs.Record.{header}
use Rattle.journal.specs.Reading.{StandsFor}
use Rattle.journal.specs.declared.header.HeaderFault.TheVariants as header_fault
use Rattle.journal.specs.declared.name.JournalName.{JournalName}
use Rattle.compaction.specs.Compacted.{skipping}
use Rattle.keepers.specs.Keeping.{left_since_of, moment_of, stands_of}
use Rattle.keepers.specs.declared.keeps.Keeps.{Ghosts as Keeps}
use Rattle.journalfile.specs.Keeping.{FileHas, JournalHas}
use Rattle.journalfile.specs.Recovery.{IsFaultOf, IsNameFault}
use Rattle.journalfile.specs.Settled.{IsSettled}
use Rattle.journalfile.specs.declared.checkpoint.Checkpoint.{Checkpoint}
use Rattle.journalfile.specs.declared.checkpoint.CompactedJournal.{CompactedJournal}
use Rattle.journalfile.specs.declared.log.Log.{Ghosts as Log}
use Rattle.journalfile.specs.declared.recovery.RecoverFault.{RecoverFault}
use Rattle.journalfile.specs.declared.recovery.RecoverFault.TheVariants as recover_fault
use Rattle.journalfile.specs.declared.writing.Journal.{Journal}
use Rattle.mapparse.specs.declared.files.FileBytes.{FileBytes}
use Rattle.console.specs.Console.{Outcome, WriterState, IsReported}
use Rattle.console.specs.declared.failure.Failure.{Failure}
use Rattle.console.specs.declared.failure.Failure.TheVariants as failure
use Rattle.keepers.specs.declared.cause.LogCause.{LogCause}
use Rattle.program.specs.Causes.{fault_of_cause}
use Rattle.program.specs.declared.keeping.JournalFault.{JournalFault}
use Rattle.program.specs.declared.keeping.JournalFault.TheVariants as fault
use Rattle.program.specs.declared.host.OpenFault.{OpenFault}
use Rattle.program.specs.declared.host.OpenFault.TheVariants as log_fault

-- the known properties of the journals of a host: which logs it gives for a path, and for which causes none; whether they are reliable, their bytes, the
-- bytes that a crash may leave of them now, the moment, and the bytes that one may have left since; and the failures of their calls with their causes
pub record JournalView (L : Type 0) : Type 1 where
  pub gives : List ℕ → L → Type 0
  pub unopened : List ℕ → OpenFault → Type 0
  pub reliable : Type 0
  pub content : L → List ℕ
  pub may_leave : L → List ℕ → Type 0
  pub moment : L → ℕ
  pub left_since : L → ℕ → List ℕ → Type 0
  pub Failure : Type 0
  pub cause_of : Failure → LogCause

-- those of a host, by the logs that it gives and what these say
abbrev pub journal_view : {H L F : Type 0} → (H → List ℕ → L → Type 0) → (H → List ℕ → OpenFault → Type 0) → Log L F → (F → LogCause) → H → JournalView L
journal_view {H} {L} {F} journal unopened log cause_of h = record {
  gives = journal h;
  unopened = unopened h;
  reliable = log.reliable;
  content = log.content;
  may_leave = log.may_leave;
  moment = log.moment;
  left_since = log.left_since;
  Failure = F;
  cause_of = cause_of;
}

-- a call of a log failed for this cause
abbrev pub HasFailed : {L : Type 0} → JournalView L → LogCause → Type 0
HasFailed view cause = (failure : view.Failure) × (view.cause_of failure ≡ cause)

-- a journal has these batches, where its log is reliable; without a journal nothing is required
abbrev pub KeepsAll : {L : Type 0} → JournalView L → Option (Journal L) → List (List ℕ) → Type 0
KeepsAll view None batches = Unit {0}
KeepsAll view (Some journal) batches = view.reliable → IsSettled view.content view.may_leave journal batches

-- a journal that is compacted has these batches, or fewer that lead to the same state, where its log is reliable
abbrev pub KeepsState : {L : Type 0} → JournalView L → CompactedJournal L → List (List ℕ) → Type 0
KeepsState view compacted batches = view.reliable → JournalHas view.content view.may_leave compacted.journal batches

-- what is known of a journal that keeps batches, or of none: a call of it fails where one of its log did
abbrev pub whole_keeper : {L : Type 0} → JournalView L → Keeps (Option (Journal L))
whole_keeper view = record {
  reliable = view.reliable;
  keeps = KeepsAll view;
  moment = moment_of (λ journal. view.moment journal.log);
  left_since = left_since_of (λ journal. view.left_since journal.log);
  stands = stands_of (λ journal. StandsFor journal.name);
  fails = HasFailed view;
}

-- the same of one that is compacted
abbrev pub compacted_keeper : {L : Type 0} → JournalView L → Keeps (CompactedJournal L)
compacted_keeper view = record {
  reliable = view.reliable;
  keeps = KeepsState view;
  moment = λ compacted. view.moment compacted.journal.log;
  left_since = λ compacted. view.left_since compacted.journal.log;
  stands = λ compacted. FileHas compacted.journal.name.fingerprint;
  fails = HasFailed view;
}

-- the part of a digest for a file that a mapfile uses: its name and its bytes
abbrev pub given_message : FileBytes → List ℕ
given_message file = sized file.name ++ content_message (Some file.bytes)

-- the fingerprint of a map: the digest of its mapfile and of the files that it uses
abbrev pub map_fingerprint : List ℕ → List FileBytes → List ℕ
map_fingerprint mapfile files = sha256 (sized mapfile ++ flat_map given_message files)

-- why a journal isn't opened, by the fault of its recovery
abbrev pub fault_of : {F : Type 0} → RecoverFault F → JournalFault
fault_of (recover_fault.Header header_fault.NotAJournal) = fault.NotAJournal
fault_of (recover_fault.Header header_fault.EarlierForm) = fault.EarlierForm
fault_of (recover_fault.Header header_fault.Damaged) = fault.DamagedHeader
fault_of (recover_fault.Header header_fault.OtherMap) = fault.OtherMap
fault_of (recover_fault.Damaged number) = fault.Damaged number
fault_of (recover_fault.Refused number) = fault.Refused number
fault_of recover_fault.NoMemory = fault.Log log_fault.NoMemory
fault_of (recover_fault.Failed cause) = fault.Log log_fault.Failed

-- the message on a log that can't be opened
unfoldable pub log_message : OpenFault → List ℕ
log_message log_fault.InUse = codes "another program has it"
log_message log_fault.NotAllowed = codes "the program may not read and write it"
log_message log_fault.ReadOnly = codes "its file system is read-only"
log_message log_fault.Full = codes "its disk is full"
log_message log_fault.NoTarget = codes "it is a link to a file that isn't there"
log_message log_fault.Appeared = codes "another program makes it"
log_message log_fault.Replaced = codes "it was removed or replaced"
log_message log_fault.NoFolder = codes "it can't be read or written"
log_message log_fault.Failed = codes "it can't be read or written"
log_message log_fault.NoMemory = codes "out of memory"

-- the message on a journal's fault, which a number may follow
unfoldable pub fault_message : JournalFault → List ℕ
fault_message fault.NotAJournal = codes "it is no journal"
fault_message fault.EarlierForm = codes "it is of an earlier form (KESMOCH JOURNAL 2), which this program doesn't read"
fault_message fault.DamagedHeader = codes "its header is damaged"
fault_message fault.OtherMap = codes "it is of another map"
fault_message (fault.Damaged number) = codes "it is damaged after record "
fault_message (fault.Refused number) = codes "the map doesn't accept record "
fault_message (fault.Log cause) = log_message cause

-- the number of a record
abbrev pub number_text : JournalFault → List ℕ
number_text (fault.Damaged number) = decimal number
number_text (fault.Refused number) = decimal number
number_text other = []

-- the failure with which the program ends for it
abbrev pub failure_of : JournalFault → Failure
failure_of (fault.Log log_fault.NoMemory) = failure.NoMemory
failure_of (fault.Log cause) = failure.JournalFailed
failure_of other = failure.JournalFault

-- what follows the message on a folder that is missing, where that is explained: a line of its own, without its end
unfoldable pub fault_more : JournalFault → Bool → List ℕ
fault_more (fault.Log log_fault.NoFolder) true = codes "\nerror: the folder of the journal is missing"
fault_more why explains = []

-- the line that reports it, with the path of the journal, and explains it or not
abbrev pub journal_fault : List ℕ → Bool → JournalFault → List ℕ
journal_fault path explains why = codes "fault journal " ++ (path ++ (codes ": " ++ (fault_message why ++ (number_text why ++ (fault_more why explains ++ codes "\n")))))

-- a host gave no log for a path, or memory was refused
abbrev pub IsWithoutLog : {L : Type 0} → JournalView L → List ℕ → JournalFault → Type 0
IsWithoutLog view path why = ((cause : OpenFault) × (why ≡ fault.Log cause) × view.unopened path cause) ⊎ (why ≡ fault.Log log_fault.NoMemory)

-- when a journal is compacted as it is served: from this many megabytes on
abbrev pub checkpoint_of : ℕ → Checkpoint
checkpoint_of megabytes = record { least = megabytes * 1000000; due = megabytes * 1000000 }

module _ {L : Type 0} (view : JournalView L) (path fingerprint : List ℕ) (first : State) where
  -- a journal was opened on a log of the host: the machine is in the state after its batches, and those that were left out of it are counted there. Where the log is reliable, its bytes stood for these batches, and it keeps them; so many bytes of a torn
  -- tail were cut off
  pub record IsOpened (last : State) (journal : Journal L) (cut : ℕ) : Type 0 where
    pub log : L
    pub gives : view.gives path log
    pub of_map : journal.name.fingerprint ≡ fingerprint
    pub bounded : IsBounded journal.name.compaction
    pub batches : List (List ℕ)
    pub after : after accepted (skipping (skipped_of journal.name.compaction) first) batches ≡ Some last
    pub stood : view.reliable → StandsFor journal.name (view.content log) batches
    pub settled : view.reliable → IsSettled view.content view.may_leave journal batches
    pub shorter : view.reliable → length (view.content log) ≡ length (view.content journal.log) + cut

  -- the header of a log names a journal of the map, which isn't opened
  pub record IsOpenFault (old new : L) (cause : RecoverFault view.Failure) : Type 0 where
    pub name : JournalName
    pub of_map : name.fingerprint ≡ fingerprint
    pub named : StartsWith (header sha256 (name_bytes name)) (view.content old)
    pub fault : IsFaultOf name view.content old new (skipping (skipped_of name.compaction) first) cause

  -- the bytes of a log have a fault: their header isn't that of a journal of the map, or the journal that it names isn't opened
  abbrev pub IsFaulty : L → L → RecoverFault view.Failure → Type 0
  IsFaulty old new cause = IsNameFault fingerprint view.content old new cause ⊎ IsOpenFault old new cause

  -- why none was opened: the host gave no log, memory was refused, a call of the log failed, or its bytes have a fault
  abbrev pub IsUnopened : JournalFault → Type 0
  IsUnopened why =
      IsWithoutLog view path why
      ⊎ ((log new : L) × view.gives path log × (cause : RecoverFault view.Failure) × (why ≡ fault_of cause) × (view.reliable → IsFaulty log new cause))

-- the line on a torn tail that was cut off, with the path of the journal and the length of the tail
abbrev pub cut_line : List ℕ → ℕ → List ℕ
cut_line path cut = codes "warning journal " ++ (path ++ (codes ": a torn record of " ++ (decimal cut ++ codes " bytes was cut off\n")))

-- it was reported, where that is requested and there was such a tail
abbrev pub ReportsCut : Bool → List ℕ → ℕ → WriterState → WriterState → Type 0
ReportsCut requested path cut old new = MatchBool (requested && not (cut == 0)) (IsReported old new (cut_line path cut)) (new ≡ old)

-- where the journal of a service failed, that is reported at its end, with the cause
abbrev pub ReportsEnd : List ℕ → Outcome → Option LogCause → WriterState → WriterState → Type 0
ReportsEnd path (Err failure.JournalFailed) cause old new = IsReported old new (journal_fault path false (fault.Log (fault_of_cause cause)))
ReportsEnd path outcome cause old new = new ≡ old
