-- Replicas that wait to be published.
use Rattle.std.specs.Prelude.{◌≡◌, ℕ, List, [], ◌∷◌}
use mathlib.Core.List.{IsPrefix}
use Rattle.batches.specs.Batch.{State}
use Rattle.mapshare.specs.Replica.{IsMade, shape_of}
use Rattle.mapshare.specs.declared.replica.Replica.{Replica}

-- each replica is made by its batches, which begin with those of the one before it, and the last of them are these
abbrev pub IsChain : {S : Type 0} → State → List (List ℕ) → List (Replica S) → List (List ℕ) → Type 0
IsChain opening first [] last = first ≡ last
IsChain opening first (replica ∷ replicas) last =
    IsPrefix first replica.prefix × IsMade opening (shape_of replica) × IsChain opening replica.prefix replicas last
