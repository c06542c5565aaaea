-- A connection that was answered, by the bytes that its writer holds.
use Rattle.std.proofs.Common.{ℕ, List, Option, None, Some, IfSome, Result, Ok, Err, OnOk, IfErr, inl}
use Rattle.httpedge.specs.Exchange.{Said}
use Rattle.httpedge.specs.Stopped.{Effect, HasExchanged, HasStopped}
use Rattle.httpedge.specs.declared.edge.EdgeFault.{EdgeFault}
use Rattle.httpedge.specs.declared.edge.EdgeFault.TheVariants.{Read, Write}
use Rattle.blocking.specs.Connections.{HasServed, HasLeft}
use Rattle.streams.specs.declared.sink.Sink.{Ghosts as Sink}

-- the effect on what the sink holds
abbrev held-effect : {A S : Type 0} → Sink S → Effect A S → Effect A (Option (List ℕ))
held-effect known effect = record { asker = effect.asker; asks = effect.asks; before = known.held effect.before; after = known.held effect.after }

module _ {A S : Type 0} (answers : A → List ℕ → Said → A → Type 0) (known : Sink S) (effect : Effect A S) where
  whole : (left : Option (List ℕ)) → IfSome left (λ stream. HasExchanged answers known stream effect) → IfSome left (λ stream. HasServed answers stream (held-effect known effect))
  whole None h = tt
  whole (Some stream) h = inl (record { text = h.text; exchange = h.exchange; bytes = h.sent.bytes })

  pub all-served : (left : Option (List ℕ)) (r : Result (Unit {0}) EdgeFault) → OnOk r (IfSome left (λ stream. HasExchanged answers known stream effect))
      → OnOk r (IfSome left (λ stream. HasServed answers stream (held-effect known effect)))
  all-served left (Ok x) h = whole left h
  all-served left (Err fault) h = tt

  broken : (left : Option (List ℕ)) (fault : EdgeFault) → IfSome left (λ stream. HasStopped fault answers known stream effect)
      → IfSome left (λ stream. HasLeft fault answers stream (held-effect known effect))
  broken None fault h = tt
  broken (Some stream) (Read written) h = record { text = h.text; begun = h.begun; bytes = h.sent.bytes; count = h.count }
  broken (Some stream) (Write written) h = inl (record { text = h.text; begun = h.begun; short = h.cut.short; bytes = h.cut.bytes })

  pub part-served : (left : Option (List ℕ)) (r : Result (Unit {0}) EdgeFault) → IfErr r (λ fault. IfSome left (λ stream. HasStopped fault answers known stream effect))
      → IfErr r (λ fault. IfSome left (λ stream. HasLeft fault answers stream (held-effect known effect)))
  part-served left (Ok x) h = tt
  part-served left (Err fault) h = broken left fault h
