-- The promises of the format, for each digest of 32 bytes (docs/SERVICE.md, "Journal").
use Rattle.std.specs.Prelude.{◌≡◌, ◌≢◌, ℕ, ◌+◌, ◌<◌, List, [], ◌∷◌, ◌++◌, length, Option}
use Rattle.journal.specs.Name.{IsBounded, name_bytes, name_of, written_of}
use Rattle.journal.specs.Record.{compacted_signature, header, sequence_bytes, record_of, records, journal_of}
use Rattle.journal.specs.Reading.{ContainsRecord, Reads, IsTorn, StandsFor}
use Rattle.journal.specs.declared.name.Compaction.{Compaction}
use Rattle.journal.specs.declared.name.JournalName.{JournalName}
use Rattle.sha2.specs.Sha256.{sha256}

-- each digest has 32 bytes
abbrev pub IsDigest : (List ℕ → List ℕ) → Type 0
IsDigest digest = (message : List ℕ) → length (digest message) ≡ 32

module _ (digest : List ℕ → List ℕ) (name : List ℕ) where
  -- a file has one reading
  abbrev pub HasOneReading : Type 0
  HasOneReading = (file : List ℕ) (a b : List (List ℕ)) (s t : List ℕ)
      → Reads digest name file a s → Reads digest name file b t → (a ≡ b) × (s ≡ t)

  -- a written journal is read, and nothing follows it
  abbrev pub WrittenIsRead : Type 0
  WrittenIsRead = (batches : List (List ℕ)) → Reads digest name (journal_of digest name batches) batches [] × IsTorn digest name []

  -- where the append of a record stops at any byte, the batches before it are read, and the rest of it is torn
  abbrev pub StopsAnywhere : Type 0
  StopsAnywhere = (batches : List (List ℕ)) (batch piece missing : List ℕ)
      → record_of digest name (sequence_bytes (length batches + 1)) batch ≡ piece ++ missing → missing ≢ []
      → Reads digest name (journal_of digest name batches ++ piece) batches piece × IsTorn digest name piece

  -- a journal that is cut after its header is read as the whole records that are left: the batches of these, and less than one more
  abbrev pub BeginsAnywhere : Type 0
  BeginsAnywhere = (batches : List (List ℕ)) (file missing : List ℕ)
      → journal_of digest name batches ≡ header digest name ++ (file ++ missing)
      → (whole later : List (List ℕ)) × (tail : List ℕ) × (batches ≡ whole ++ later)
      × Reads digest name (header digest name ++ file) whole tail × IsTorn digest name tail

  -- damage to a record before the last is seen: if the bytes in place of it aren't read, a whole record follows them
  abbrev pub DamageIsSeen : Type 0
  DamageIsSeen = (batches later : List (List ℕ)) (next damage tail : List ℕ)
      → Reads digest name (journal_of digest name batches ++ (damage ++ records digest name (length batches + 2) (next ∷ later))) batches tail
      → ContainsRecord digest name tail

module _ (digest : List ℕ → List ℕ) where
  -- a file is the journal of one map at most, and has one compaction, if any
  abbrev pub HasOneName : Type 0
  HasOneName = (a b : List ℕ) (c d : Option Compaction) (s t : List ℕ) → length a ≡ 32 → length b ≡ 32 → IsBounded c → IsBounded d
      → header digest (name_of a c) ++ s ≡ header digest (name_of b d) ++ t → (a ≡ b) × (c ≡ d) × (s ≡ t)

  -- the header of a compacted journal whose name is damaged is that of none, unless what it has then and its name are two messages of one digest
  abbrev pub DamagedNameIsSeen : Type 0
  DamagedNameIsSeen = (name damaged fingerprint : List ℕ) (compaction : Option Compaction) (s t : List ℕ)
      → length name ≡ 48 → length damaged ≡ 48 → damaged ≢ name → length fingerprint ≡ 32
      → compacted_signature ++ (damaged ++ (digest name ++ s)) ≡ header digest (name_of fingerprint compaction) ++ t
      → digest damaged ≡ digest name

  -- and one whose digest is damaged is that of none
  abbrev pub DamagedDigestIsSeen : Type 0
  DamagedDigestIsSeen = (name damaged fingerprint : List ℕ) (compaction : Option Compaction) (s t : List ℕ)
      → length name ≡ 48 → length damaged ≡ 32 → damaged ≢ digest name → length fingerprint ≡ 32
      → compacted_signature ++ (name ++ (damaged ++ s)) ≡ header digest (name_of fingerprint compaction) ++ t → ⊥

-- a file that is read as fewer batches than were written with its header stands for none
abbrev pub PartIsRefused : Type 0
PartIsRefused = (name : JournalName) (file : List ℕ) (batches others : List (List ℕ)) (tail : List ℕ)
    → Reads sha256 (name_bytes name) file batches tail → length batches < written_of name.compaction → StandsFor name file others → ⊥
