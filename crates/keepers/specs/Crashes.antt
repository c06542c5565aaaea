-- What a crash may leave of what a keeper wrote (docs/developers/VERIFICATION.md, "The file of a journal").
use Rattle.std.specs.Prelude.{◌⊎◌, ℕ, ◌≤◌, List, ◌++◌}
use mathlib.Core.List.{IsPrefix}

-- a crash at any moment from the old state to the new one leaves bytes that have P
pub record LeavesOnly {L : Type 0} (moment : L → ℕ) (left_since : L → ℕ → List ℕ → Type 0) (old new : L) (P : List ℕ → Type 0) : Type 0 where
  pub later : moment old ≤ moment new
  pub each : (c : List ℕ) → left_since new (moment old) c → P c
  -- for a run that began earlier
  pub before : (t : ℕ) (c : List ℕ) → t ≤ moment old → left_since new t c → left_since old t c ⊎ P c

-- a file stands for the batches that a keeper kept, and after them the first of some more, or none
abbrev pub StandsWithFirst : {K : Type 0} → (K → List ℕ → List (List ℕ) → Type 0) → K → List (List ℕ) → List (List ℕ) → List ℕ → Type 0
StandsWithFirst stands keeper kept more file = (first : List (List ℕ)) × IsPrefix first more × stands keeper file (kept ++ first)
