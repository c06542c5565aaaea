-- How a connection goes on, step after step.
use Rattle.std.proofs.Common.{◌≡◌, ◌∙◌, ℕ, List, [], ◌++◌, inl, take, drop, refl, sym, ap, arith, append_assoc, append-nil, take-append-drop, length-append}
use Rattle.std.proofs.KnownBytes.{Appends-nil, Appends-trans}
use Rattle.std.specs.Io.KnownBytes.{Appends}
use Rattle.httpedge.specs.Exchange.{Said}
use Rattle.httpedge.specs.Session.{QueryOutcome}
use Rattle.turns.specs.Advancing.{HasServed, Advances, ExchangeState, exchange_state, Sends, Receives}
use Rattle.turns.specs.declared.buffered_session.BufferedSession.{BufferedSession}
use Rattle.turns.specs.declared.transport.Transport.{Ghosts as Transport}

-- nothing happens
pub rests : {A T : Type 0} (answers : A → List ℕ → Said → A → Type 0) (known : Transport T) (state : ExchangeState A T) → Advances answers known state state 0
rests answers known state = record {
  came = [];
  went = [];
  count = refl;
  queries = [];
  reads = Appends-nil (known.delivered state.transport);
  writes = Appends-nil (known.accepted state.transport);
  says = inl (refl, refl);
  keeps = λ read written earlier holds. rw (append-nil read, append-nil earlier, append-nil written) holds;
}

-- bytes came
pub receives-advance : {A T : Type 0} (answers : A → List ℕ → Said → A → Type 0) (known : Transport T) (old new : BufferedSession) (before after : T) (asks : A) → Receives known old before new after →
    Advances answers known (exchange_state old before asks) (exchange_state new after asks) 0
receives-advance answers known old new before after asks r = record {
  came = r.came;
  went = [];
  count = refl;
  queries = [];
  reads = r.reads;
  writes = r.writes;
  says = inl (refl, refl);
  keeps = λ read written earlier holds. rw (append-nil written, append-nil earlier) (r.keeps read written earlier holds);
}

-- the end was taken
pub ends-advance : {A T : Type 0} (answers : A → List ℕ → Said → A → Type 0) (known : Transport T) (old new : BufferedSession) (transport : T) (asks : A) →
    ((read written : List ℕ) (queries : List QueryOutcome) → HasServed read queries written old → HasServed read queries written new) → Advances answers known (exchange_state old transport asks) (exchange_state new transport asks) 0
ends-advance answers known old new transport asks keeps = record {
  came = [];
  went = [];
  count = refl;
  queries = [];
  reads = Appends-nil (known.delivered transport);
  writes = Appends-nil (known.accepted transport);
  says = inl (refl, refl);
  keeps = λ read written earlier holds. rw (append-nil read, append-nil earlier, append-nil written) (keeps read written earlier holds);
}

-- bytes came, and then it went on
pub receives-then : {A T : Type 0} (answers : A → List ℕ → Said → A → Type 0) (known : Transport T) (old : ExchangeState A T) (exchange : BufferedSession) (transport : T) (new : ExchangeState A T) (sent : ℕ) →
    Receives known old.exchange old.transport exchange transport → Advances answers known (exchange_state exchange transport old.asks) new sent → Advances answers known old new sent
receives-then answers known old exchange transport new sent r y = record {
  came = r.came ++ y.came;
  went = y.went;
  count = y.count;
  queries = y.queries;
  reads = Appends-trans (known.delivered old.transport) (known.delivered transport) (known.delivered new.transport) r.came y.came r.reads y.reads;
  writes = Appends-trans (known.accepted old.transport) (known.accepted transport) (known.accepted new.transport) [] y.went r.writes y.writes;
  says = y.says;
  keeps = λ read written earlier holds. rw (← append_assoc read r.came y.came) (y.keeps (read ++ r.came) written earlier (r.keeps read written earlier holds));
}

-- it went on, and then bytes were sent
pub then-sends : {A T : Type 0} (answers : A → List ℕ → Said → A → Type 0) (known : Transport T) (old between : ExchangeState A T) (exchange : BufferedSession) (transport : T) (sent : ℕ) →
    Advances answers known old between 0 → Sends known between.exchange between.transport exchange transport sent →
    Advances answers known old (exchange_state exchange transport between.asks) sent
then-sends answers known old between exchange transport sent x s = record {
  came = x.came;
  went = x.went ++ s.went;
  count = omega (arith, length-append x.went s.went, x.count, s.count);
  queries = x.queries;
  reads = rw (append-nil x.came) at (Appends-trans (known.delivered old.transport) (known.delivered between.transport) (known.delivered transport) x.came [] x.reads s.reads);
  writes = Appends-trans (known.accepted old.transport) (known.accepted between.transport) (known.accepted transport) x.went s.went x.writes s.writes;
  says = x.says;
  keeps = λ read written earlier holds.
      rw (← append_assoc written x.went s.went) (s.keeps (read ++ x.came) (written ++ x.went) (earlier ++ x.queries) (x.keeps read written earlier holds));
}

-- it went on, and then a call brought nothing and sent nothing
pub then-nothing : {A T : Type 0} (answers : A → List ℕ → Said → A → Type 0) (known : Transport T) (old between : ExchangeState A T) (transport : T) (sent : ℕ) →
    Advances answers known old between sent → Appends (known.delivered between.transport) (known.delivered transport) [] →
    Appends (known.accepted between.transport) (known.accepted transport) [] →
    Advances answers known old (exchange_state between.exchange transport between.asks) sent
then-nothing answers known old between transport sent x reads writes = record {
  came = x.came;
  went = x.went;
  count = x.count;
  queries = x.queries;
  reads = rw (append-nil x.came) at (Appends-trans (known.delivered old.transport) (known.delivered between.transport) (known.delivered transport) x.came [] x.reads reads);
  writes = rw (append-nil x.went) at (Appends-trans (known.accepted old.transport) (known.accepted between.transport) (known.accepted transport) x.went [] x.writes writes);
  says = x.says;
  keeps = x.keeps;
}

-- the bytes that came, once more of them are taken
pub fed-more : (read front buffer : List ℕ) (n : ℕ) → read ≡ front ++ buffer → read ≡ (front ++ take n buffer) ++ drop n buffer
fed-more read front buffer n is = is ∙ (ap (λ l. front ++ l) (sym (take-append-drop n buffer)) ∙ sym (append_assoc front (take n buffer) (drop n buffer)))
