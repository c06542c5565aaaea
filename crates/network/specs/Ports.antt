-- The connections of a port, one after the other (docs/SERVICE.md, "The program").
use Rattle.std.specs.Prelude.{◌≡◌, ◌≢◌, Result, Ok, Err, ℕ, zero, suc, ◌-◌, List, [], ◌∷◌, ◌++◌, Option, None, Some, option_map, ⊤}

-- an event of a port: a call for a connection fails, or one is opened
pub data PortEvent : Type 0 where
  Failed : PortEvent
  Opened : PortEvent

-- the known events of a port grow by these
abbrev pub Notes : Option (List PortEvent) → Option (List PortEvent) → List PortEvent → Type 0
Notes None after events = ⊤
Notes (Some before) None events = ⊥
Notes (Some before) (Some after) events = after ≡ before ++ events

-- how many connections are requested, if there is an end: 0 requests no end
abbrev pub requested : ℕ → Option ℕ
requested zero = None
requested (suc n) = Some (suc n)

-- how many of these events opened a connection
abbrev pub count_opened : List PortEvent → ℕ
count_opened [] = 0
count_opened (Failed ∷ events) = count_opened events
count_opened (Opened ∷ events) = suc (count_opened events)

-- some calls were made: these events of the port, and of a number of connections that remain, if there is an end, so many fewer
pub record HasAccepted (before after : Option (List PortEvent)) (remaining left : Option ℕ) (events : List PortEvent) : Type 0 where
  pub noted : Notes before after events
  pub fewer : left ≡ option_map (λ n. n - count_opened events) remaining

-- a call for a connection of a port, of which so many remain, if there is an end: none was made, since none remain; one was opened, and one fewer
-- remains; or the call failed
abbrev pub HasCalled : {C F : Type 0} → Option (List PortEvent) → Option (List PortEvent) → Option ℕ → Option ℕ → Result (Option C) F → Type 0
HasCalled before after remaining left (Ok None) = (after ≡ before) × (left ≡ remaining) × (remaining ≡ Some 0)
HasCalled before after remaining left (Ok (Some connection)) = Notes before after (Opened ∷ []) × (remaining ≢ Some 0) × (left ≡ option_map (λ n. n - 1) remaining)
HasCalled before after remaining left (Err failed) = Notes before after (Failed ∷ []) × (left ≡ remaining)
