-- The format of a journal: a header with its name, and a record of each batch (docs/SERVICE.md, "Journal").
use Rattle.std.specs.Prelude.{ℕ, ◌+◌, ◌==◌, if◌then◌else◌, List, [], ◌∷◌, ◌++◌, length, codes}
use Rattle.std.specs.Int.{w64, to_be_bytes}
use Rattle.journal.specs.Slip.{frame}

-- the first bytes of each journal that was never compacted: the name of the format, and its version
unfoldable pub signature : List ℕ
signature = codes "KESMOCH JOURNAL 1\n"

-- the first bytes of one that was
unfoldable pub compacted_signature : List ℕ
compacted_signature = codes "KESMOCH JOURNAL 3\n"

-- the first bytes of one that an earlier program compacted, whose header has no digest
unfoldable pub earlier_signature : List ℕ
earlier_signature = codes "KESMOCH JOURNAL 2\n"

-- a number in 8 bytes, the highest first
unfoldable pub sequence_bytes : ℕ → List ℕ
sequence_bytes number = to_be_bytes w64 number

module _ (digest : List ℕ → List ℕ) (name : List ℕ) where
  -- the header: a signature and the name of the journal. A name that is longer than a fingerprint is that of a journal that was compacted; its digest
  -- follows it
  abbrev pub header : List ℕ
  header = if length name == 32 then signature ++ name else compacted_signature ++ (name ++ digest name)

  -- the contents of a record: the 8 bytes of its number, the batch, and the digest of both after the name of the journal
  abbrev pub body : List ℕ → List ℕ → List ℕ
  body sequence batch = sequence ++ (batch ++ digest (name ++ (sequence ++ batch)))

  -- the record of a batch
  abbrev pub record_of : List ℕ → List ℕ → List ℕ
  record_of sequence batch = frame (body sequence batch)

  -- the records of some batches, the first of which has this number
  abbrev pub records : ℕ → List (List ℕ) → List ℕ
  records number [] = []
  records number (batch ∷ batches) = record_of (sequence_bytes number) batch ++ records (number + 1) batches

  -- the journal of some batches, which have the numbers from 1
  abbrev pub journal_of : List (List ℕ) → List ℕ
  journal_of batches = header ++ records 1 batches
