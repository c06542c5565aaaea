-- Fewer batches that lead to the same state (docs/SERVICE.md, "Journal").
use Rattle.std.specs.Prelude.{◌≡◌, ℕ, ◌+◌, List, length, Option, Some}
use Rattle.sharing.specs.Sharing.{after}

-- some batches, and how many were skipped, lead from any state to the same one as others: `skipping` counts the skipped ones in a state
pub record IsShortOf {S B : Type 0} (accepted : S → B → Option S) (skipping : ℕ → S → S) (skipped : ℕ) (own batches : List B) : Type 0 where
  pub counted : skipped + length own ≡ length batches
  pub same : (first last : S) → after accepted first batches ≡ Some last → after accepted (skipping skipped first) own ≡ Some last
