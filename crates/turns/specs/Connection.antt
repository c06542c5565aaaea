-- A turn of a connection, up to its closing (docs/WMS.md, "HTTP").
use Rattle.std.specs.Prelude.{◌≡◌, ◌⊎◌, ◌≤◌, ◌<◌, ◌+◌, ℕ, List, [], length, Bool, true, false, not, ◌==◌}
use Rattle.std.specs.Io.KnownBytes.{Appends}
use Rattle.httpedge.specs.Exchange.{Said}
use Rattle.turns.specs.Advancing.{Advances, Calls, ExchangeState, IsNext, HasTaken}
use Rattle.turns.specs.Drain.{brought, next_drained, phase_drained}
use Rattle.turns.specs.Times.{capped, phase_after, is_over, is_draining}
use Rattle.turns.specs.declared.open_connection.OpenConnection.{OpenConnection}
use Rattle.turns.specs.declared.open_connection.TurnConditions.{TurnConditions}
use Rattle.turns.specs.declared.outcomes.ReadOutcome.{ReadOutcome}
use Rattle.turns.specs.declared.outcomes.ReadOutcome.TheVariants as read
use Rattle.turns.specs.declared.turn.Next.{Next}
use Rattle.turns.specs.declared.turn.Next.TheVariants as next
use Rattle.turns.specs.declared.turn.TurnResult.{TurnResult}
use Rattle.turns.specs.declared.transport.Transport.{Ghosts as Transport}

-- how many bytes of a response are to be sent to a connection
abbrev pub owed_by : {T : Type 0} → OpenConnection T → ℕ
owed_by connection = length connection.exchange.session.outgoing

-- a connection at one moment, and the answerer of its queries
pub record ConnectionState (A T : Type 0) : Type 0 where
  pub connection : OpenConnection T
  pub asks : A

-- this connection with this answerer
abbrev pub connection_state : {A T : Type 0} → OpenConnection T → A → ConnectionState A T
connection_state connection asks = record { connection = connection; asks = asks }

-- the exchange of a connection
abbrev pub exchange_of : {A T : Type 0} → ConnectionState A T → ExchangeState A T
exchange_of state = record { exchange = state.connection.exchange; transport = state.connection.transport; asks = state.asks }

-- what a turn was made under: whether a query might be answered in it, and when it ended
pub record TurnTerms : Type 0 where
  pub may_ask : Bool
  pub ended : ℕ

-- the terms of a turn under these conditions that ended at a moment
abbrev pub ended_at : TurnConditions → ℕ → TurnTerms
ended_at conditions ended = record { may_ask = conditions.may_ask; ended = ended }

-- after its last answer a connection has further turns, in which it is drained
abbrev pub next_by : Next → Next
next_by next.Done = next.Turn
next_by other = other

-- a turn before the last answer was sent: the connection goes on as its session does, and its phase changes by what happened, at the moment at which
-- the turn ended. It waits for the call that would have waited. It has a further turn at once only where bytes were taken or sent. It is read once at
-- most, then written to once at most, and then its sending side is closed, if that was the last answer. No other call is made
pub record IsServed {A T : Type 0} (answers : A → List ℕ → Said → A → Type 0) (known : Transport T) (terms : TurnTerms) (old new : ConnectionState A T) (result : Next) : Type 0 where
  pub turned : TurnResult
  pub advances : Advances answers known (exchange_of old) (exchange_of new) turned.sent
  pub time : new.connection.phase ≡ phase_after old.connection.phase turned (not (owed_by new.connection == 0)) terms.ended
  pub moves : turned.next ≡ next.Turn → (0 < turned.sent) ⊎ HasTaken known.reads old.connection.exchange old.connection.transport new.connection.exchange new.connection.transport
  pub called : T
  pub calls : Calls known old.connection.transport called
  pub shut : turned.next ≡ next.Done → known.shuts called new.connection.transport
  pub unshut : (turned.next ≡ next.Done → ⊥) → new.connection.transport ≡ called
  pub next : result ≡ next_by turned.next
  pub waits : IsNext known terms.may_ask result new.connection.exchange new.connection.transport

-- a turn after the last answer: one read, whose bytes are dropped. The connection is over at the end of what the client sends, at a fault, and where
-- more than 1,048,576 bytes were dropped
pub record IsDrained {T : Type 0} (known : Transport T) (old : OpenConnection T) (new : OpenConnection T) (result : Next) : Type 0 where
  pub session : new.exchange.session ≡ old.exchange.session
  pub came : List ℕ
  pub gave : Appends (known.delivered old.transport) (known.delivered new.transport) came
  pub writes : Appends (known.accepted old.transport) (known.accepted new.transport) []
  pub outcome : ReadOutcome
  pub one_read : known.reads old.transport outcome new.transport
  pub idle : outcome ≡ read.WouldBlock → new.exchange.buffer ≡ []
  pub dropped : new.dropped ≡ capped (old.dropped + brought outcome)
  pub next : result ≡ next_drained outcome new.dropped
  pub time : new.phase ≡ phase_drained result old.phase

-- a turn of a connection: before its last answer was sent it is served, and after that it is drained; one that is over is reported as failed. Where
-- no query may be answered, the answerer isn't called, and no more bytes are to be sent than before
pub record IsTurn {A T : Type 0} (answers : A → List ℕ → Said → A → Type 0) (known : Transport T) (terms : TurnTerms) (old new : ConnectionState A T) (result : Next) : Type 0 where
  pub over : is_over old.connection.phase ≡ true → (new.connection ≡ old.connection) × (new.asks ≡ old.asks) × (result ≡ next.Failed)
  pub drained : is_draining old.connection.phase ≡ true → IsDrained known old.connection new.connection result × (new.asks ≡ old.asks)
  pub served : is_over old.connection.phase ≡ false → is_draining old.connection.phase ≡ false → IsServed answers known terms old new result
  pub no_more : terms.may_ask ≡ false → (owed_by new.connection ≤ owed_by old.connection) × (new.asks ≡ old.asks)
