-- How batches are checked one after the other (docs/SERVICE.md, "Sharing").
use Rattle.std.specs.Prelude.{◌≡◌, ◌≤◌, ◌<◌, ℕ, List, ◌∷◌, length, take, drop, Option, None, Some, Err}
use Rattle.batches.specs.Batch.{State, batched, accepted}
use Rattle.batches.specs.declared.fault.BatchError.{BatchError}
use Rattle.batches.specs.declared.fault.BatchError.TheVariants as batch_error
use Rattle.batches.specs.declared.fault.BatchFault.{BatchFault}
use Rattle.sharing.specs.Sharing.{after}
use Rattle.mapshare.specs.declared.checking.Accepted.{Accepted}

-- why no more than so many of some batches are accepted: there are no more; or the next one has this fault; or memory was refused for it
abbrev pub StopsAt : (List ℕ → BatchFault → Type 0) → List (List ℕ) → ℕ → Option BatchError → Type 0
StopsAt has batches count None = count ≡ length batches
StopsAt has batches count (Some (batch_error.Fault fault)) =
    (batch : List ℕ) × (rest : List (List ℕ)) × (drop count batches ≡ batch ∷ rest) × has batch fault
StopsAt has batches count (Some batch_error.NoMemory) = count < length batches

-- the first of some batches are accepted, one after the other, from the first state to the last
pub record HasChecked (first : State) (batches : List (List ℕ)) (found : Accepted) (last : State) : Type 0 where
  pub within : found.count ≤ length batches
  pub leads : after accepted first (take found.count batches) ≡ Some last
  pub stop : StopsAt (λ batch fault. batched batch last ≡ Err fault) batches found.count found.refused

-- the last state, if there is one, or the first
abbrev pub last_of : State → Option State → State
last_of first None = first
last_of first (Some last) = last
