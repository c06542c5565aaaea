-- The events of a sharing, and the batches that its readers are shown or learn of (docs/SERVICE.md, "Sharing").
use Rattle.std.specs.Prelude.{ℕ, ◌==◌, if◌then◌else◌, List, [], ◌∷◌, ◌++◌, Option, None, Some, slice_get}
use Rattle.sharing.specs.Sharing.{Reader, Sharing, after, longer}

-- the administrator submits a batch, or publishes the pending ones; the reader of a number learns the receipt of a number, enters, gets a query, or
-- leaves
pub data Event (B Q : Type 0) : Type 0 where
  Submit : B → Event B Q
  Publish : Event B Q
  Learn : ℕ → ℕ → Event B Q
  Enter : ℕ → Event B Q
  Answer : ℕ → Q → Event B Q
  Leave : ℕ → Event B Q

-- a batch is pending after the others where there is a state after it; else it is refused
abbrev pub submit : {S B : Type 0} → B → Option S → List B → List B
submit b None pending = pending
submit b (Some state) pending = pending ++ b ∷ []

-- the pending batches follow the published ones, and there is a receipt of all these; where nothing is pending, nothing is done
abbrev pub publish : {B : Type 0} → List B → Sharing B → Sharing B
publish [] w = w
publish (b ∷ bs) w = record w { published = w.published ++ b ∷ bs; pending = []; receipts = w.receipts ++ (w.published ++ b ∷ bs) ∷ [] }

-- of its known batches and those of a receipt, a reader knows the longer from then on; during an entry, or without such a receipt, nothing is done
abbrev pub learn : {B : Type 0} → Option (List B) → Option (List B) → Reader B → Reader B
learn None (Some receipt) reader = record { known = longer reader.known receipt; entered = None }
learn None None reader = reader
learn (Some entry) receipt reader = reader

-- the entry shows all that is published, which the reader knows from then on; during an entry nothing is done
abbrev pub enter : {B : Type 0} → List B → Option (List B) → Reader B → Reader B
enter published None reader = record { known = published; entered = Some published }
enter published (Some entry) reader = reader

-- the entry ends, and the reader's known batches stay
abbrev pub leave : {B : Type 0} → Reader B → Reader B
leave reader = record { known = reader.known; entered = None }

-- one reader is changed, and all others are as they were
abbrev pub change : {B : Type 0} → ℕ → (Reader B → Reader B) → (ℕ → Reader B) → ℕ → Reader B
change r new readers i = if i == r then new (readers i) else readers i

-- the batches that a reader is shown by an entry
abbrev pub shown : {B : Type 0} → List B → Option (List B) → List (List B)
shown published None = published ∷ []
shown published (Some entry) = []

-- the batches that a reader learns of by a receipt
abbrev pub learned : {B : Type 0} → Option (List B) → Option (List B) → List (List B)
learned None (Some receipt) = receipt ∷ []
learned None None = []
learned (Some entry) receipt = []

-- the lists that the reader of a number is shown or learns of by an event
abbrev pub heard_at : {B Q : Type 0} → Sharing B → Event B Q → ℕ → List (List B)
heard_at w (Enter r) i = if i == r then shown w.published (w.readers i).entered else []
heard_at w (Learn r k) i = if i == r then learned (w.readers i).entered (slice_get w.receipts k) else []
heard_at w (Submit b) i = []
heard_at w Publish i = []
heard_at w (Answer r q) i = []
heard_at w (Leave r) i = []

module _ {S B Q : Type 0} (start : S) (batch : S → B → Option S) where
  -- the effect of one event
  abbrev pub step : Sharing B → Event B Q → Sharing B
  step w (Submit b) = record w { pending = submit b (after batch start (w.published ++ (w.pending ++ b ∷ []))) w.pending }
  step w Publish = publish w.pending w
  step w (Learn r k) = record w { readers = change r (λ reader. learn reader.entered (slice_get w.receipts k) reader) w.readers }
  step w (Enter r) = record w { readers = change r (λ reader. enter w.published reader.entered reader) w.readers }
  step w (Answer r q) = w
  step w (Leave r) = record w { readers = change r leave w.readers }

  -- the effect of some events, one after the other
  abbrev pub run : Sharing B → List (Event B Q) → Sharing B
  run w [] = w
  run w (event ∷ events) = run (step w event) events

  -- all lists that the reader of a number is shown or learns of by some events
  abbrev pub heard : Sharing B → List (Event B Q) → ℕ → List (List B)
  heard w [] i = []
  heard w (event ∷ events) i = heard_at w event i ++ heard (step w event) events i
