-- The steps of an administrator (docs/SERVICE.md, "Sharing").
use Rattle.std.specs.Prelude.{◌≡◌, ◌≤◌, ℕ, List, [], ◌∷◌, ◌++◌, length, take, Some, IsSome, Err}
use Rattle.batches.specs.Batch.{State, batched, accepted}
use Rattle.batches.specs.declared.fault.BatchFault.{BatchFault}
use Rattle.sharing.specs.Sharing.{after}
use Rattle.mapshare.specs.Checking.{StopsAt}
use Rattle.mapshare.specs.declared.checking.Accepted.{Accepted}
use Rattle.mapshare.specs.declared.admin.Submitted.{Submitted}
use Rattle.mapshare.specs.declared.admin.Submitted.TheVariants as submitted
use Rattle.mapshare.specs.declared.admin.Retried.{Retried}
use Rattle.mapshare.specs.declared.admin.Retried.TheVariants as retried

-- the batches that are published, and those that were accepted and are pending
pub record Batches : Type 0 where
  pub published : List (List ℕ)
  pub pending : List (List ℕ)

-- all batches that were accepted, in their order
abbrev pub all_of : Batches → List (List ℕ)
all_of batches = batches.published ++ batches.pending

-- the pending batches were published: the receipt is of all batches, and nothing is pending any more
abbrev pub IsPublished : Batches → List (List ℕ) → Batches → Type 0
IsPublished old receipt new = (receipt ≡ all_of old) × (new ≡ record { published = receipt; pending = [] })

-- one more batch is pending
abbrev pub with_batch : List ℕ → Batches → Batches
with_batch batch old = record { published = old.published; pending = old.pending ++ batch ∷ [] }

-- more batches are pending, in their order
abbrev pub with_batches : List (List ℕ) → Batches → Batches
with_batches more old = record { published = old.published; pending = old.pending ++ more }

-- there is a state after all batches
abbrev pub IsAccepted : State → Batches → Type 0
IsAccepted opening batches = IsSome (after accepted opening (all_of batches))

-- the batch has this fault in the state after all batches
abbrev pub IsRefused : State → Batches → List ℕ → BatchFault → Type 0
IsRefused opening batches batch fault =
    (state : State) × (after accepted opening (all_of batches) ≡ Some state) × (batched batch state ≡ Err fault)

-- the first of some batches were accepted, and are the last that are pending
pub record HasAccepted (opening : State) (old : Batches) (batches : List (List ℕ)) (found : Accepted) (new : Batches) : Type 0 where
  pub within : found.count ≤ length batches
  pub pending : new ≡ with_batches (take found.count batches) old
  pub made : IsAccepted opening new
  pub stop : StopsAt (IsRefused opening new) batches found.count found.refused

-- the result of submitting a batch. It was accepted, and published with all that was pending, or it is pending itself. Or it was refused with its
-- first fault, or out of memory, and nothing has changed
abbrev pub HasSubmitted : {S : Type 0} → State → Batches → List ℕ → Submitted S → Batches → Type 0
HasSubmitted opening old batch (submitted.Published receipt) new = IsAccepted opening (with_batch batch old) × IsPublished (with_batch batch old) receipt new
HasSubmitted opening old batch submitted.Held new = IsAccepted opening (with_batch batch old) × (new ≡ with_batch batch old)
HasSubmitted opening old batch (submitted.Refused fault) new = IsRefused opening old batch fault × (new ≡ old)
HasSubmitted opening old batch submitted.NoMemory new = new ≡ old

-- the result for the pending batches: there were none, or they were published, or they are held
abbrev pub HasRetried : {S : Type 0} → Batches → Retried S → Batches → Type 0
HasRetried old retried.Idle new = (old.pending ≡ []) × (new ≡ old)
HasRetried old (retried.Published receipt) new = IsPublished old receipt new
HasRetried old retried.Held new = new ≡ old

-- nothing was pending
abbrev pub IsIdle : {S : Type 0} → Retried S → Type 0
IsIdle retried.Idle = Unit {0}
IsIdle (retried.Published receipt) = ⊥
IsIdle retried.Held = ⊥
