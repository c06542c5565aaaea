-- The reading of a file, whatever became of its end (docs/SERVICE.md, "Journal").
use Rattle.std.specs.Prelude.{◌≡◌, ℕ, ◌+◌, ◌≤◌, List, ◌++◌, length, take, drop, Option, MatchOption}
use mathlib.Core.List.{IsPrefix}
use Rattle.sha2.specs.Sha256.{sha256}
use Rattle.journal.specs.Slip.{stuffed}
use Rattle.journal.specs.Name.{name_bytes, written_of}
use Rattle.journal.specs.Record.{sequence_bytes, body, record_of, journal_of}
use Rattle.journal.specs.declared.name.JournalName.{JournalName}

module _ (digest : List ℕ → List ℕ) (name : List ℕ) where
  -- some bytes begin with the whole record of this number, whatever its batch
  abbrev pub StartsWithNumber : ℕ → List ℕ → Type 0
  StartsWithNumber number bytes = (batch more : List ℕ) × (bytes ≡ record_of digest name (sequence_bytes number) batch ++ more)

  -- some bytes are those between the two ENDs of a record, whatever its number
  abbrev pub IsRecordFrame : List ℕ → Type 0
  IsRecordFrame bytes = (sequence batch : List ℕ) × (length sequence ≡ 8) × (bytes ≡ stuffed (body digest name sequence batch))

  -- some bytes are those between the two ENDs of the record of this number with this batch
  abbrev pub IsFrameOf : ℕ → List ℕ → List ℕ → Type 0
  IsFrameOf number batch bytes = bytes ≡ stuffed (body digest name (sequence_bytes number) batch)

  -- the bytes of a number and a batch are in those between the two ENDs of a record
  abbrev pub IsDecoded : List ℕ → List ℕ → Type 0
  IsDecoded bytes decoded = (8 ≤ length decoded) × (bytes ≡ stuffed (body digest name (take 8 decoded) (drop 8 decoded)))

  -- the record of this number is at the beginning of some bytes, before others; where none was found, none begins there
  abbrev pub IsNextRecord : {V : Type 0} → (V → List ℕ) → ℕ → List ℕ → Option V → List ℕ → Type 0
  IsNextRecord items number bytes found rest =
      MatchOption found (StartsWithNumber number bytes → ⊥) (λ batch. bytes ≡ record_of digest name (sequence_bytes number) (items batch) ++ rest)

  -- some bytes begin with a whole record, whatever its number
  abbrev pub StartsWithRecord : List ℕ → Type 0
  StartsWithRecord bytes = (sequence batch more : List ℕ) × (length sequence ≡ 8) × (bytes ≡ record_of digest name sequence batch ++ more)

  -- there is a whole record somewhere in some bytes
  abbrev pub ContainsRecord : List ℕ → Type 0
  ContainsRecord bytes = (front rest : List ℕ) × (bytes ≡ front ++ rest) × StartsWithRecord rest

  -- a file is the journal of these batches and a tail, and the tail doesn't begin with the record that would be the next
  pub record Reads (file : List ℕ) (batches : List (List ℕ)) (tail : List ℕ) : Type 0 where
    pub whole : file ≡ journal_of digest name batches ++ tail
    pub longest : StartsWithNumber (length batches + 1) tail → ⊥

  -- a tail is torn where it contains no whole record: an append that wasn't completed can have left it
  abbrev pub IsTorn : List ℕ → Type 0
  IsTorn tail = ContainsRecord tail → ⊥

-- a file stands for these batches: it is their journal, perhaps with a torn tail, and has at least those that were written with its header
pub record StandsFor (name : JournalName) (file : List ℕ) (batches : List (List ℕ)) : Type 0 where
  pub tail : List ℕ
  pub reads : Reads sha256 (name_bytes name) file batches tail
  pub torn : IsTorn sha256 (name_bytes name) tail
  pub whole : written_of name.compaction ≤ length batches

-- it stands for these batches and the first of some more: for all of these, for some, or for none
abbrev pub StandsForFirst : JournalName → List (List ℕ) → List (List ℕ) → List ℕ → Type 0
StandsForFirst name batches more file = (first : List (List ℕ)) × IsPrefix first more × StandsFor name file (batches ++ first)

-- both stand for the same batches
abbrev pub StandAlike : JournalName → List ℕ → List ℕ → Type 0
StandAlike name file other = (batches : List (List ℕ)) × StandsFor name file batches × StandsFor name other batches
