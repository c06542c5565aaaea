-- The frames of a log that is read in pieces.
use Rattle.std.specs.Prelude.{◌≡◌, ℕ, ◌+◌, ◌≤◌, List, [], ◌∷◌, ◌++◌, length, take, drop, Bool, true, false, Option, None, Some, Vec}
use Rattle.std.specs.declared.alloc.Global.{Global}
use Rattle.sha2.specs.Sha256.{sha256}
use Rattle.journal.specs.Slip.{HasNoEnd}
use Rattle.journal.specs.Reading.{ContainsRecord}
use Rattle.keepers.specs.Crashes.{LeavesOnly}
use Rattle.journalfile.specs.Log.{NoOther}

-- the bytes that were read and not taken, and the offset in the log of the first of them
pub record Ahead : Type 0 where
  pub position : ℕ
  pub bytes : List ℕ

-- these bytes are those of a file
pub record IsAhead (file : List ℕ) (ahead : Ahead) : Type 0 where
  pub inside : ahead.position ≤ length file
  pub begins : drop ahead.position file ≡ ahead.bytes ++ drop (ahead.position + length ahead.bytes) file

-- the next frame of a file was taken, with the END after it; or there is no END, and the file is at its end
abbrev pub HasTaken : List ℕ → Ahead → Ahead → Option (Vec ℕ Global) → Type 0
HasTaken file old new None = HasNoEnd (drop old.position file) × (drop new.position file ≡ [])
HasTaken file old new (Some frame) = HasNoEnd frame.items × (drop old.position file ≡ frame.items ++ 192 ∷ drop new.position file)

-- a log was read, if at all: it has its bytes, and a crash at any moment leaves what one before might have left
pub record IsRead {L : Type 0} (content : L → List ℕ) (may_leave : L → List ℕ → Type 0) (moment : L → ℕ) (left_since : L → ℕ → List ℕ → Type 0) (old new : L) : Type 0 where
  pub same : content new ≡ content old
  pub crash : NoOther (may_leave old) (may_leave new)
  pub any_moment : LeavesOnly moment left_since old new (may_leave old)

-- the bytes up to the next END were taken and added to others, with the END taken too; or all, where there is no END
abbrev pub HasAdded : List ℕ → List ℕ → Ahead → Ahead → Bool → Type 0
HasAdded before after old new true =
    (front : List ℕ) × HasNoEnd front × (after ≡ before ++ front) × (old.bytes ≡ front ++ 192 ∷ new.bytes) × (new.position ≡ old.position + (length front + 1))
HasAdded before after old new false = HasNoEnd old.bytes × (after ≡ before ++ old.bytes) × (new.bytes ≡ []) × (new.position ≡ old.position + length old.bytes)

-- these are the bytes of a file at an offset, as many as they are; none where the file ends there
pub record IsPiece (file : List ℕ) (offset : ℕ) (piece : List ℕ) : Type 0 where
  pub is : piece ≡ take (length piece) (drop offset file)
  pub end : piece ≡ [] → drop offset file ≡ []

-- a whole record begins at some byte that is left; or none does, and the file was read to its end
abbrev pub IsSearched : List ℕ → List ℕ → Ahead → Ahead → Bool → Type 0
IsSearched name file old new true = ContainsRecord sha256 name (drop old.position file)
IsSearched name file old new false = (ContainsRecord sha256 name (drop old.position file) → ⊥) × (drop new.position file ≡ [])
