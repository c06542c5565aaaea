-- The promises of a sharing, whatever happens (docs/SERVICE.md, "Sharing").
use Rattle.std.specs.Prelude.{◌≡◌, ℕ, List, ◌∷◌, ◌++◌, length, All, Option, Some, IfSome, IsSome}
use mathlib.Core.List.{IsPrefix}
use Rattle.sharing.specs.Sharing.{Sharing, after, opened}
use Rattle.sharing.specs.Event.Event.{Answer}
use Rattle.sharing.specs.Event.{Event, heard, run}
use Rattle.sharing.specs.Reply.{AreReplies, IsAnswerAfter}

module _ {S A B Q : Type 0} (start : S) (batch : S → B → Option S) (answers : S → Q → A → Type 0) where
  -- the answer is one in the state after some of the published batches, the first ones, which begin with all lists that the reader was shown or
  -- learned of
  pub record IsRight (published : List B) (learned : List (List B)) (query : Q) (answer : A) : Type 0 where
    pub batches : List B
    pub first : IsPrefix batches published
    pub begins : All (λ list. IsPrefix list batches) learned
    pub answered : IsAnswerAfter start batch answers query answer batches

  -- an answer is right by the batches published before it and the lists that its reader was shown or learned of, whatever comes later
  abbrev pub AnswersAreRight : Type 0
  AnswersAreRight = (before later : List (Event B Q)) (given rest : List (Option A)) (r : ℕ) (query : Q) (answer : A)
      → length given ≡ length before
      → AreReplies start batch answers opened (before ++ Answer r query ∷ later) (given ++ Some answer ∷ rest)
      → IsRight (run start batch opened before).published (heard start batch opened before r) query answer

-- there is a state after all published and pending batches, and an entry has a state. Known batches and those of receipts begin the published ones.
-- Each list that a reader was shown or learned of begins its known batches
pub record IsKept {S B Q : Type 0} (start : S) (batch : S → B → Option S) (w : Sharing B) (events : List (Event B Q)) : Type 0 where
  pub accepted : IsSome (after batch start (w.published ++ w.pending))
  pub known : (r : ℕ) → IsPrefix (w.readers r).known w.published
  pub receipts : All (λ receipt. IsPrefix receipt w.published) w.receipts
  pub begins : (r : ℕ) → All (λ list. IsPrefix list (w.readers r).known) (heard start batch opened events r)
  pub answerable : (r : ℕ) → IfSome (w.readers r).entered (λ batches. IsSome (after batch start batches))

-- that holds after any events
abbrev pub KeepsPromises : {S B : Type 0} → Type 0 → S → (S → B → Option S) → Type 0
KeepsPromises {B} Q start batch = (events : List (Event B Q)) → IsKept start batch (run start batch opened events) events

-- the published batches, and those that a reader knew, begin those of later
abbrev pub Grows : {S B : Type 0} → Type 0 → S → (S → B → Option S) → Type 0
Grows {B} Q start batch = (before later : List (Event B Q)) (r : ℕ)
    → IsPrefix (run start batch opened before).published (run start batch opened (before ++ later)).published
    × IsPrefix ((run start batch opened before).readers r).known ((run start batch opened (before ++ later)).readers r).known
