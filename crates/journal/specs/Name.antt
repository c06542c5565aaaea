-- The name of a journal (docs/SERVICE.md, "Journal").
use Rattle.std.specs.Prelude.{ℕ, ◌<◌, ◌^◌, List, ◌++◌, Option, None, Some}
use Rattle.journal.specs.Record.{sequence_bytes}
use Rattle.journal.specs.declared.name.Compaction.{Compaction}
use Rattle.journal.specs.declared.name.JournalName.{JournalName}

-- how many batches fewer a journal has than those that it stands for: none, if it was never compacted
abbrev pub skipped_of : Option Compaction → ℕ
skipped_of None = 0
skipped_of (Some compaction) = compaction.skipped

-- how many of its batches were written with its header, by the last compaction
abbrev pub written_of : Option Compaction → ℕ
written_of None = 0
written_of (Some compaction) = compaction.written

-- both numbers have 8 bytes
abbrev pub IsBounded : Option Compaction → Type 0
IsBounded compaction = (skipped_of compaction < 2 ^ 64) × (written_of compaction < 2 ^ 64)

-- the name of the journal of a map
abbrev pub journal_name : List ℕ → Option Compaction → JournalName
journal_name fingerprint compaction = record { fingerprint = fingerprint; compaction = compaction }

-- the bytes of the name: the fingerprint of the map, and both numbers before it where the journal was compacted
abbrev pub name_of : List ℕ → Option Compaction → List ℕ
name_of fingerprint None = fingerprint
name_of fingerprint (Some compaction) = sequence_bytes compaction.skipped ++ (sequence_bytes compaction.written ++ fingerprint)

-- those of a name
abbrev pub name_bytes : JournalName → List ℕ
name_bytes name = name_of name.fingerprint name.compaction
