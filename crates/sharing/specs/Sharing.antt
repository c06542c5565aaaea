-- A sharing: the batches that are published and pending, receipts, and the readers' known batches (docs/SERVICE.md, "Sharing").
use Rattle.std.specs.Prelude.{ℕ, nat_lt, if◌then◌else◌, List, [], ◌∷◌, length, Option, None, Some, option_and_then}

-- the batches that a reader knows to be published, and those that its entry shows, if it has one
pub record Reader (B : Type 0) : Type 0 where
  pub known : List B
  pub entered : Option (List B)

-- all published batches, those that were accepted and are pending, the receipts in their order, and the readers by their numbers
pub record Sharing (B : Type 0) : Type 0 where
  pub published : List B
  pub pending : List B
  pub receipts : List (List B)
  pub readers : ℕ → Reader B

-- at the opening nothing is published, and no reader knows anything
abbrev pub opened : {B : Type 0} → Sharing B
opened = record { published = []; pending = []; receipts = []; readers = λ _. record { known = []; entered = None } }

-- the state after some batches, if each is accepted in the state after those before it
abbrev pub after : {S B : Type 0} → (S → B → Option S) → S → List B → Option S
after batch s [] = Some s
after batch s (b ∷ bs) = option_and_then (λ t. after batch t bs) (batch s b)

-- the longer of two lists
abbrev pub longer : {B : Type 0} → List B → List B → List B
longer a b = if nat_lt (length a) (length b) then b else a
