-- A journal whose log keeps all of it (docs/SERVICE.md, "Journal").
use Rattle.std.specs.Prelude.{◌≡◌, ◌≤◌, ◌-◌, ◌^◌, ℕ, List, length, min}
use Rattle.sha2.specs.Sha256.{sha256}
use Rattle.journal.specs.Name.{name_bytes, written_of}
use Rattle.journal.specs.Record.{journal_of}
use Rattle.journal.specs.Reading.{IsTorn}
use Rattle.journalfile.specs.Log.{Only}
use Rattle.journalfile.specs.declared.writing.Journal.{Journal}

-- the bytes that a crash may leave in place of appended bytes contain no record: the digests show it
abbrev pub GarblesNoRecord : (List ℕ → Type 0) → List ℕ → Type 0
GarblesNoRecord garbled name = (left : List ℕ) → garbled left → IsTorn sha256 name left

-- a journal notes how many bytes its log has, where that is a number of 8 bytes
abbrev pub NotesLength : {L : Type 0} → (L → List ℕ) → Journal L → Type 0
NotesLength content journal = journal.length ≡ min (length (content journal.log)) (2 ^ 64 - 1)

-- the log has the journal of these batches, among them all that were written with its header, and each crash leaves all of it. The journal notes how many
-- batches and bytes these are
pub record IsSettled {L : Type 0} (content : L → List ℕ) (may_leave : L → List ℕ → Type 0) (journal : Journal L) (batches : List (List ℕ)) : Type 0 where
  pub file : content journal.log ≡ journal_of sha256 (name_bytes journal.name) batches
  pub count : journal.count ≡ length batches
  pub enough : written_of journal.name.compaction ≤ length batches
  pub durable : Only (content journal.log) (may_leave journal.log)
  pub noted : NotesLength content journal
