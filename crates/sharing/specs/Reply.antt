-- The replies to events (docs/SERVICE.md, "Sharing").
use Rattle.std.specs.Prelude.{◌≡◌, List, [], ◌∷◌, Option, None, Some, IsSomeAnd}
use Rattle.sharing.specs.Sharing.{Sharing, after}
use Rattle.sharing.specs.Event.Event.{Answer}
use Rattle.sharing.specs.Event.{Event, step}

module _ {S A B Q : Type 0} (start : S) (batch : S → B → Option S) (answers : S → Q → A → Type 0) where
  -- there is a state after these batches, and in it this is an answer to the query
  abbrev pub IsAnswerAfter : Q → A → List B → Type 0
  IsAnswerAfter query answer batches = IsSomeAnd (after batch start batches) (λ state. answers state query answer)

  -- a query is answered by the batches that the reader's entry shows, and without an entry not at all; no other event has an answer
  abbrev pub IsReply : Sharing B → Event B Q → Option A → Type 0
  IsReply w (Answer r query) (Some answer) = IsSomeAnd (w.readers r).entered (IsAnswerAfter query answer)
  IsReply w (Answer r query) None = (w.readers r).entered ≡ None
  IsReply w event None = Unit {0}
  IsReply w event (Some answer) = ⊥

  -- these are replies to these events, one to each
  abbrev pub AreReplies : Sharing B → List (Event B Q) → List (Option A) → Type 0
  AreReplies w [] [] = Unit {0}
  AreReplies w (event ∷ events) (reply ∷ replies) = IsReply w event reply × AreReplies (step start batch w event) events replies
  AreReplies w [] (reply ∷ replies) = ⊥
  AreReplies w (event ∷ events) [] = ⊥
