-- How far a stream is read (docs/WMS.md, "HTTP").
use Rattle.std.specs.Prelude.{◌⊎◌, ◌<◌, ℕ, zero, suc, List, [], ◌++◌, length, Option, None, Some, ◌==◌}
use Rattle.std.specs.List.{All, FoldsTo, concat}
use Rattle.std.specs.Option.{unwrap_or}
use Rattle.std.specs.Io.KnownBytes.{Consumes}
use Rattle.httpedge.specs.Connection.{LeavesOpen}
use Rattle.httpedge.specs.Meaning.{Meaning}
use Rattle.httpedge.specs.Turn.{IsTurn, Further}
use Rattle.httpedge.specs.declared.conn.TheConstants.{REQUESTS}
use Rattle.httpedge.specs.declared.edge.EdgeFault.{EdgeFault}
use Rattle.httpedge.specs.declared.edge.EdgeFault.TheVariants.{Read, Write}

-- a connection that has so many requests left needs a further read. The bytes that came are heads that don't end it, and then fewer bytes than a head
-- may have, which begin with no head
unfoldable pub Wants : ℕ → List ℕ → Type 0
Wants zero came = ⊥
Wants (suc n) came = LeavesOpen came ⊎ ((meaning : Meaning) × (after : List ℕ) × IsTurn (n == 0) came (Further meaning after) × Wants n after)

-- each piece has a byte at least, and after all of them together a further read is needed
pub record WantsMore (pieces : List (List ℕ)) : Type 0 where
  pub some : All (λ piece. 0 < length piece) pieces
  pub wants : Wants REQUESTS (concat pieces)

-- a reader was read up to a last read that was needed, and no further. `left` is what a reader has left, where that is known; `took`
-- relates a reader, what one read gave, if it didn't fail, and the reader after it
pub record ReadsTo {R : Type 0} (left : R → Option (List ℕ)) (took : R → Option (List ℕ) → R → Type 0) (last : Option (List ℕ)) (old new : R) : Type 0 where
  pub earlier : List (List ℕ)
  pub before : R
  pub wanted : WantsMore earlier
  pub reads : FoldsTo (λ reader piece next. took reader (Some piece) next) old earlier before
  pub final : took before last new
  pub bytes : Consumes (left old) (left new) (concat earlier ++ unwrap_or last [])

-- the last read gave a piece
abbrev pub ReadsToPiece : {R : Type 0} → (R → Option (List ℕ)) → (R → Option (List ℕ) → R → Type 0) → R → R → Type 0
ReadsToPiece left took old new = (piece : List ℕ) × ReadsTo left took (Some piece) old new

-- how far a reader was read before a fault: where the reader failed, that was the last read
abbrev pub ReadsToFault : {R : Type 0} → EdgeFault → (R → Option (List ℕ)) → (R → Option (List ℕ) → R → Type 0) → R → R → Type 0
ReadsToFault (Read written) left took old new = ReadsTo left took None old new
ReadsToFault (Write written) left took old new = ReadsToPiece left took old new

-- the law that where a read is needed, each read before it was needed
abbrev pub PrefixesWant : Type 0
PrefixesWant = (front more : List ℕ) → Wants REQUESTS (front ++ more) → Wants REQUESTS front
