-- A journal that is compacted (docs/SERVICE.md, "Journal").
use Rattle.std.specs.Prelude.{◌≡◌, ◌⊎◌, ◌^◌, ℕ, ◌+◌, ◌-◌, ◌*◌, max, min, List, ◌++◌, length, drop, Option, None, Some}
use Rattle.sha2.specs.Sha256.{sha256}
use Rattle.compaction.specs.Compacted.{commands_of, compacted}
use Rattle.compaction.specs.LastChanges.{AreLast, Changes}
use Rattle.journal.specs.Name.{IsBounded, journal_name, name_bytes, skipped_of}
use Rattle.journal.specs.declared.name.JournalName.{JournalName}
use Rattle.journal.specs.Record.{journal_of, records}
use Rattle.journal.specs.Reading.{StandsFor}
use Rattle.journalfile.specs.Settled.{IsSettled}
use Rattle.journalfile.specs.declared.checkpoint.Checkpoint.{Checkpoint}
use Rattle.journalfile.specs.declared.reading.NotCompacted.{NotCompacted}
use Rattle.journalfile.specs.declared.reading.Reader.{Reader}
use Rattle.journalfile.specs.declared.reading.Records.{Records}
use Rattle.journalfile.specs.declared.writing.Journal.{Journal}

-- the first batches of a journal were read, and the records of the others follow
pub record HasRead (file : List ℕ) (all done left : List (List ℕ)) (reader : Reader) : Type 0 where
  pub parts : all ≡ done ++ left
  pub counted : reader.number ≡ length done
  pub follows : drop reader.frames.position file ≡ records sha256 (name_bytes reader.name) (reader.number + 1) left

-- these batches are what is left of those that were read
pub record HasLeft (file : List ℕ) (all written : List (List ℕ)) (reader : Reader) : Type 0 where
  pub done : List (List ℕ)
  pub left : List (List ℕ)
  pub read : HasRead file all done left reader
  pub commands : reader.commands ≡ length (commands_of done)
  pub is : compacted all ≡ written ++ compacted left

-- this holds of all batches of a journal, where it has as many as its records say, and their last changes are these
abbrev pub OfAll : List ℕ → Records → Changes → (List (List ℕ) → Type 0) → Type 0
OfAll file records changes Holds =
    (all : List (List ℕ)) → file ≡ journal_of sha256 (name_bytes records.name) all → records.count ≡ length all → AreLast changes (commands_of all) → Holds all

-- these batches were written to a journal, under a name
abbrev pub HasWritten : {L : Type 0} → (L → List ℕ) → JournalName → List (List ℕ) → Journal L → Type 0
HasWritten content name batches journal = (content journal.log ≡ journal_of sha256 (name_bytes name) batches) × (journal.count ≡ length batches)

-- how many of some batches are left out
abbrev pub left_out : List (List ℕ) → ℕ
left_out batches = length batches - length (compacted batches)

-- the name of a journal of these batches that is compacted: it says how many batches were left out, now and before, and that what is left was written
-- with its header
abbrev pub compacted_name : JournalName → List (List ℕ) → JournalName
compacted_name name batches =
    journal_name name.fingerprint (Some (record { skipped = skipped_of name.compaction + left_out batches; written = length (compacted batches) }))

-- a journal is settled with what is left of the batches of another one, under their name
pub record IsCompacted {L : Type 0} (content : L → List ℕ) (may_leave : L → List ℕ → Type 0) (name : JournalName) (batches : List (List ℕ)) (journal : Journal L) : Type 0 where
  pub settled : IsSettled content may_leave journal (compacted batches)
  pub named : journal.name ≡ compacted_name name batches
  pub bounded : IsBounded journal.name.compaction

-- a journal was compacted, or it has the batches that it had
abbrev pub HasCompacted : {L : Type 0} → (L → List ℕ) → (L → List ℕ → Type 0) → Journal L → Journal L → List (List ℕ) → Option NotCompacted → Type 0
HasCompacted content may_leave old new batches None = IsCompacted content may_leave old.name batches new
HasCompacted content may_leave old new batches (Some why) = IsSettled content may_leave new batches × (new.name ≡ old.name)

-- a file stands for the batches of a journal; or for what is left of them, under their name
abbrev pub StandsForLeft : JournalName → List (List ℕ) → List ℕ → Type 0
StandsForLeft name batches file =
    StandsFor name file batches
    ⊎ (IsBounded (compacted_name name batches).compaction × StandsFor (compacted_name name batches) file (compacted batches))

-- a journal of this length, in bytes, is compacted next where it has twice as many, and the least length at least
abbrev pub next_checkpoint : Checkpoint → ℕ → Checkpoint
next_checkpoint checkpoint length = record checkpoint { due = max (min (2 * length) (2 ^ 64 - 1)) checkpoint.least }
