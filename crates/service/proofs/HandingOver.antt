-- The connections that are handed over to workers, call after call.
use Rattle.std.proofs.Common.{◌≡◌, ◌∙◌, ℕ, ◌+◌, ◌-◌, ◌^◌, min, List, [], ◌∷◌, ◌++◌, Option, None, Some, option_map, Result, Ok, Err, arith, refl, sym, ap}
use Rattle.std.specs.Prelude.{MatchOption}
use Rattle.network.specs.Accepting.{Follows}
use Rattle.network.specs.Ports.{PortEvent, Failed, Opened, HasAccepted, HasCalled, count_opened}
use Rattle.network.specs.declared.acceptor.Acceptor.{Acceptor}
use Rattle.network.specs.declared.acceptor.Eviction.{Eviction}
use Rattle.network.specs.declared.acceptor.Plan.{Plan}
use Rattle.network.specs.declared.acceptor.Plan.TheVariants as plan
use Rattle.network.specs.declared.port.AcceptFailed.{AcceptFailed}
use Rattle.network.proofs.Noting.{none-accepted, one-more}
use Rattle.service.specs.Serving.{AreHandedOver, capped}

-- how many were handed over after a call: one more where a connection came, if that was handed over
abbrev pub NextCount : {C F : Type 0} → Option (Result (Option C) F) → ℕ → ℕ → Type 0
NextCount None count next = next ≡ count
NextCount (Some (Ok None)) count next = next ≡ count
NextCount (Some (Ok (Some connection))) count next = next ≡ min (count + 1) (2 ^ 64 - 1)
NextCount (Some (Err failed)) count next = next ≡ count

-- the events of calls, and how many connections of them were handed over
abbrev pub AreHanded : Option (List PortEvent) → Option (List PortEvent) → Option ℕ → Option ℕ → ℕ → ℕ → Type 0
AreHanded first last remaining left before count = (events : List PortEvent) × HasAccepted first last remaining left events × (capped count ≡ capped (before + count_opened events))

module _ {C : Type 0} (old new : Acceptor) (count : ℕ) where
  -- a plan to hand over a connection follows on one that came
  pub one-came : (called : Option (Result (Option C) AcceptFailed)) (next : Plan C) (connection : C) (number : ℕ) → Follows old called next new → next ≡ plan.HandOver connection number
      → NextCount called count (min (count + 1) (2 ^ 64 - 1))
  one-came None next connection number is same = absurd (cc (is.0, same))
  one-came (Some (Ok None)) next connection number is same = absurd (cc (is.0, same))
  one-came (Some (Ok (Some other))) next connection number is same = refl
  one-came (Some (Err failed)) next connection number is same = absurd (cc (is.0, same))

  -- one to wait follows where none came
  pub none-came : (called : Option (Result (Option C) AcceptFailed)) (next : Plan C) → Follows old called next new → next ≡ plan.Wait → NextCount called count count
  none-came None next is same = refl
  none-came (Some (Ok None)) next is same = refl
  none-came (Some (Ok (Some other))) next is same = absurd (cc (is.0, same))
  none-came (Some (Err failed)) next is same = refl

  -- and one to end
  pub ends-came : (called : Option (Result (Option C) AcceptFailed)) (next : Plan C) → Follows old called next new → next ≡ plan.End → NextCount called count count
  ends-came None next is same = refl
  ends-came (Some (Ok None)) next is same = refl
  ends-came (Some (Ok (Some other))) next is same = absurd (cc (is.0, same))
  ends-came (Some (Err failed)) next is same = refl

  -- and one to evict
  pub failed-came : (called : Option (Result (Option C) AcceptFailed)) (next : Plan C) (eviction : Eviction) → Follows old called next new → next ≡ plan.Evict eviction → NextCount called count count
  failed-came None next eviction is same = refl
  failed-came (Some (Ok None)) next eviction is same = refl
  failed-came (Some (Ok (Some other))) next eviction is same = absurd (cc (is.0, same))
  failed-came (Some (Err failed)) next eviction is same = refl

module _ {Q C F : Type 0} (first old new : Q) (log : Q → Option (List PortEvent)) (left : Q → Option ℕ) (before count : ℕ) where
  -- one more call was made, if it was
  pub next-handed : (called : Option (Result (Option C) F)) (next : ℕ) → AreHanded (log first) (log old) (left first) (left old) before count
      → MatchOption called (new ≡ old) (HasCalled (log old) (log new) (left old) (left new)) → NextCount called count next
      → AreHanded (log first) (log new) (left first) (left new) before next
  next-handed None next (events, accepted, so_far) same is = rw same (events, accepted, omega (arith, is, so_far))
  next-handed (Some (Ok None)) next (events, accepted, so_far) called is =
      let more = one-more {C = C} {F = F} (log first) (log old) (log new) (left first) (left old) (left new) events (Ok None) accepted called in
      (more.0, more.1, omega (arith, is, so_far, more.2))
  next-handed (Some (Ok (Some connection))) next (events, accepted, so_far) called is =
      let more = one-more {C = C} {F = F} (log first) (log old) (log new) (left first) (left old) (left new) events (Ok (Some connection)) accepted called in
      (more.0, more.1, omega (arith, is, so_far, more.2))
  next-handed (Some (Err failed)) next (events, accepted, so_far) called is =
      let more = one-more {C = C} {F = F} (log first) (log old) (log new) (left first) (left old) (left new) events (Err failed) accepted called in
      (more.0, more.1, omega (arith, is, so_far, more.2))

  -- the thread was woken to stop, by a connection or not
  pub woken : (called : Option (Result (Option C) F)) → AreHanded (log first) (log old) (left first) (left old) before count
      → MatchOption called (new ≡ old) (HasCalled (log old) (log new) (left old) (left new))
      → (events : List PortEvent) × HasAccepted (log first) (log new) (left first) (left new) events × AreHandedOver before events count
  woken None (events, accepted, so_far) same = rw same (events, accepted, (0, omega arith, omega (arith, so_far)))
  woken (Some (Ok None)) (events, accepted, so_far) called =
      let more = one-more {C = C} {F = F} (log first) (log old) (log new) (left first) (left old) (left new) events (Ok None) accepted called in
      (more.0, more.1, (0, omega arith, omega (arith, so_far, more.2)))
  woken (Some (Ok (Some connection))) (events, accepted, so_far) called =
      let more = one-more {C = C} {F = F} (log first) (log old) (log new) (left first) (left old) (left new) events (Ok (Some connection)) accepted called in
      (more.0, more.1, (1, omega arith, omega (arith, so_far, more.2)))
  woken (Some (Err failed)) (events, accepted, so_far) called =
      let more = one-more {C = C} {F = F} (log first) (log old) (log new) (left first) (left old) (left new) events (Err failed) accepted called in
      (more.0, more.1, (0, omega arith, omega (arith, so_far, more.2)))

-- all that came were handed over
pub all-handed : (first last : Option (List PortEvent)) (remaining left : Option ℕ) (before count : ℕ) → AreHanded first last remaining left before count
    → (events : List PortEvent) × HasAccepted first last remaining left events × AreHandedOver before events count
all-handed first last remaining left before count (events, accepted, so_far) = (events, accepted, (0, omega arith, omega (arith, so_far)))
