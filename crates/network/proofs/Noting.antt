-- The events of a port, call after call.
use Rattle.std.proofs.Common.{◌≡◌, ◌≢◌, true, false, ◌∙◌, ℕ, ◌+◌, ◌-◌, List, [], ◌∷◌, ◌++◌, Option, None, Some, option_map, Result, Ok, Err, arith, refl, sym, ap, subst, append_assoc, append-nil}
use Rattle.std.specs.Prelude.{MatchOption}
use Rattle.network.specs.Ports.{PortEvent, Failed, Opened, Notes, HasAccepted, HasCalled, count_opened}

Notes-nil : (a : Option (List PortEvent)) → Notes a a []
Notes-nil None = tt
Notes-nil (Some x) = sym (append-nil x)

Notes-trans : (a b c : Option (List PortEvent)) (es fs : List PortEvent) → Notes a b es → Notes b c fs → Notes a c (es ++ fs)
Notes-trans None b c es fs p q = tt
Notes-trans (Some x) None c es fs p q = absurd p
Notes-trans (Some x) (Some y) None es fs p q = absurd q
Notes-trans (Some x) (Some y) (Some z) es fs p q = q ∙ ap (λ l. l ++ fs) p ∙ append_assoc x es fs

count-append : (es fs : List PortEvent) → count_opened (es ++ fs) ≡ count_opened es + count_opened fs
count-append [] fs = omega arith
count-append (Failed ∷ es) fs = count-append es fs
count-append (Opened ∷ es) fs = let e = count-append es fs in omega (arith, e)

-- one connection more, and one fewer remains
one-fewer : (remaining : Option ℕ) (events : List PortEvent) → option_map (λ n. n - 1) (option_map (λ n. n - count_opened events) remaining) ≡ option_map (λ n. n - count_opened (events ++ Opened ∷ [])) remaining
one-fewer None events = refl
one-fewer (Some n) events = let e = count-append events (Opened ∷ []) in ap Some (omega (arith, e))

none-fewer : (remaining : Option ℕ) (events : List PortEvent) → option_map (λ n. n - count_opened events) remaining ≡ option_map (λ n. n - count_opened (events ++ Failed ∷ [])) remaining
none-fewer None events = refl
none-fewer (Some n) events = let e = count-append events (Failed ∷ []) in ap Some (omega (arith, e))

all-remain : (remaining : Option ℕ) → remaining ≡ option_map (λ n. n - 0) remaining
all-remain None = refl
all-remain (Some n) = ap Some (omega arith)

-- no call was made
pub none-accepted : (before : Option (List PortEvent)) (remaining : Option ℕ) → HasAccepted before before remaining remaining []
none-accepted before remaining = record { noted = Notes-nil before; fewer = all-remain remaining }

-- a call opened a connection
abbrev pub opened_by : {C F : Type 0} → Result (Option C) F → ℕ
opened_by (Ok None) = 0
opened_by (Ok (Some connection)) = 1
opened_by (Err failed) = 0

-- one more call was made
pub one-more : {C F : Type 0} (first before after : Option (List PortEvent)) (remaining left later : Option ℕ) (events : List PortEvent) (called : Result (Option C) F) → HasAccepted first before remaining left events
    → HasCalled before after left later called → (all : List PortEvent) × HasAccepted first after remaining later all × (count_opened all ≡ count_opened events + opened_by called)
one-more first before after remaining left later events (Ok None) accepted (same, still, none) = (
  events,
  record { noted = subst (λ (e : Option (List PortEvent)). Notes first e events) (sym same) accepted.noted; fewer = still ∙ accepted.fewer },
  omega arith,
)
one-more first before after remaining left later events (Ok (Some connection)) accepted (noted, more, fewer) = (
  events ++ Opened ∷ [],
  record {
    noted = Notes-trans first before after events (Opened ∷ []) accepted.noted noted;
    fewer = fewer ∙ ap (option_map (λ n. n - 1)) accepted.fewer ∙ one-fewer remaining events;
  },
  count-append events (Opened ∷ []),
)
one-more first before after remaining left later events (Err failed) accepted (noted, still) = (
  events ++ Failed ∷ [],
  record {
    noted = Notes-trans first before after events (Failed ∷ []) accepted.noted noted;
    fewer = still ∙ accepted.fewer ∙ none-fewer remaining events;
  },
  count-append events (Failed ∷ []),
)
