-- The submitted batches that are kept (docs/SERVICE.md, "Journal").
use Rattle.std.specs.Prelude.{◌≡◌, ◌⊎◌, ℕ, List, [], ◌∷◌, ◌++◌}
use mathlib.Core.List.{IsPrefix}
use Rattle.batches.specs.Batch.{State}
use Rattle.mapshare.specs.Admin.{Batches, IsAccepted, with_batch, with_batches}
use Rattle.mapshare.specs.declared.admin.Submitted.{Submitted}
use Rattle.mapshare.specs.declared.admin.Submitted.TheVariants as submitted

-- the batch is kept, after all that were kept, where it is published or pending; else the keeper is as it was
abbrev pub HasKept : {K S : Type 0} → (K → List (List ℕ) → Type 0) → K → List (List ℕ) → List ℕ → Submitted S → K → Type 0
HasKept keeps old batches batch (submitted.Published receipt) new = keeps new (batches ++ batch ∷ [])
HasKept keeps old batches batch submitted.Held new = keeps new (batches ++ batch ∷ [])
HasKept keeps old batches batch (submitted.Refused fault) new = new ≡ old
HasKept keeps old batches batch submitted.NoMemory new = new ≡ old

-- a file stands for the batches that were kept, and after them the first of some more, or none; these are accepted
abbrev pub StandsWithAccepted : {K : Type 0} → State → Batches → (K → List ℕ → List (List ℕ) → Type 0) → K → List (List ℕ) → List (List ℕ) → List ℕ → Type 0
StandsWithAccepted opening old stands keeper kept more file =
    (first : List (List ℕ)) × IsPrefix first more × IsAccepted opening (with_batches first old) × stands keeper file (kept ++ first)

-- a file stands for the batches that were kept, and one more after them, or not; that one is accepted
abbrev pub StandsWithOne : {K : Type 0} → State → Batches → (K → List ℕ → List (List ℕ) → Type 0) → K → List (List ℕ) → List ℕ → List ℕ → Type 0
StandsWithOne opening old stands keeper kept batch file =
    stands keeper file kept ⊎ (IsAccepted opening (with_batch batch old) × stands keeper file (kept ++ batch ∷ []))
