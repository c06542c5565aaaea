-- The header of a journal, as it is read (docs/SERVICE.md, "Journal").
use Rattle.std.specs.Prelude.{◌≡◌, ◌⊎◌, ℕ, List, ◌++◌, length}
use Rattle.sha2.specs.Sha256.{sha256}
use Rattle.journal.specs.Name.{name_bytes}
use Rattle.journal.specs.Record.{signature, compacted_signature, earlier_signature, header}
use Rattle.journal.specs.declared.header.HeaderFault.{HeaderFault}
use Rattle.journal.specs.declared.header.HeaderFault.TheVariants as header_fault
use Rattle.journal.specs.declared.name.JournalName.{JournalName}

-- some bytes begin with others
abbrev pub StartsWith : List ℕ → List ℕ → Type 0
StartsWith front bytes = (rest : List ℕ) × (bytes ≡ front ++ rest)

-- they begin with the 48 bytes of a compacted journal's name, and its digest
abbrev pub StartsSealed : List ℕ → Type 0
StartsSealed bytes = (name : List ℕ) × (length name ≡ 48) × StartsWith (compacted_signature ++ (name ++ sha256 name)) bytes

-- they begin with the header of a journal of the map that has this fingerprint
abbrev pub StartsOfMap : List ℕ → List ℕ → Type 0
StartsOfMap fingerprint bytes = (name : JournalName) × (name.fingerprint ≡ fingerprint) × StartsWith (header sha256 (name_bytes name)) bytes

-- why they don't: they begin with no signature; or with that of an earlier form; or a name and its digest don't follow the signature of a compacted
-- journal; or it is the journal of another map
abbrev pub IsHeaderFault : List ℕ → List ℕ → HeaderFault → Type 0
IsHeaderFault fingerprint bytes header_fault.NotAJournal = StartsWith signature bytes ⊎ (StartsWith earlier_signature bytes ⊎ StartsWith compacted_signature bytes) → ⊥
IsHeaderFault fingerprint bytes header_fault.EarlierForm = StartsWith earlier_signature bytes
IsHeaderFault fingerprint bytes header_fault.Damaged = StartsWith compacted_signature bytes × (StartsSealed bytes → ⊥)
IsHeaderFault fingerprint bytes header_fault.OtherMap = (StartsWith signature bytes ⊎ StartsSealed bytes) × (StartsOfMap fingerprint bytes → ⊥)
