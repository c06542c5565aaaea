-- How a connection goes on by a turn (docs/WMS.md, "HTTP").
use Rattle.std.specs.Prelude.{◌≡◌, ◌≢◌, ◌⊎◌, ℕ, List, [], ◌++◌, length, Bool, true, false}
use Rattle.std.specs.Io.KnownBytes.{Appends}
use Rattle.httpedge.specs.Exchange.{Said}
use Rattle.httpedge.specs.Session.{QueryOutcome, HasAsked, HasRespondedWith, is_done, wants}
use Rattle.httpedge.specs.declared.stage.Stage.TheVariants.{Ended}
use Rattle.turns.specs.declared.buffered_session.BufferedSession.{BufferedSession}
use Rattle.turns.specs.declared.outcomes.ReadOutcome.{ReadOutcome}
use Rattle.turns.specs.declared.outcomes.ReadOutcome.TheVariants as read
use Rattle.turns.specs.declared.outcomes.WriteOutcome.{WriteOutcome}
use Rattle.turns.specs.declared.outcomes.WriteOutcome.TheVariants as write
use Rattle.turns.specs.declared.turn.Next.{Next}
use Rattle.turns.specs.declared.turn.Next.TheVariants.{Turn, Readable, Writable, Room, Done, Failed}
use Rattle.turns.specs.declared.transport.Transport.{Ghosts as Transport}

-- an exchange at one moment: the session of a connection, its transport, and the answerer of its queries
pub record ExchangeState (A T : Type 0) : Type 0 where
  pub exchange : BufferedSession
  pub transport : T
  pub asks : A

-- the exchange of these three
abbrev pub exchange_state : {A T : Type 0} → BufferedSession → T → A → ExchangeState A T
exchange_state exchange transport asks = record { exchange = exchange; transport = transport; asks = asks }

-- the bytes `read` came, and all but those in the buffer were taken; these queries of theirs were answered, and `written` was sent. `written` and the
-- bytes that are to be sent answer the bytes that were taken
abbrev pub HasServed : List ℕ → List QueryOutcome → List ℕ → BufferedSession → Type 0
HasServed read queries written exchange =
    (front : List ℕ) × (read ≡ front ++ exchange.buffer) × HasRespondedWith front queries written exchange.session × (exchange.session.stage ≡ Ended → exchange.buffer ≡ [])

-- a connection was read at most once
abbrev pub ReadsOnce : {T : Type 0} → (T → ReadOutcome → T → Type 0) → T → T → Type 0
ReadsOnce reads before after = (after ≡ before) ⊎ ((outcome : ReadOutcome) × reads before outcome after)

-- a connection was written to at most once
abbrev pub WritesOnce : {T : Type 0} → (T → WriteOutcome → T → Type 0) → T → T → Type 0
WritesOnce writes before after = (after ≡ before) ⊎ ((outcome : WriteOutcome) × writes before outcome after)

-- all calls on a connection: at most one read, and then at most one write
abbrev pub Calls : {T : Type 0} → Transport T → T → T → Type 0
Calls {T} known before after = (between : T) × ReadsOnce known.reads before between × WritesOnce known.writes between after

-- a connection went on: some bytes of its client came, at most one query of it was answered, and so many bytes were sent to it
pub record Advances {A T : Type 0} (answers : A → List ℕ → Said → A → Type 0) (known : Transport T) (old new : ExchangeState A T) (sent : ℕ) : Type 0 where
  pub came : List ℕ
  pub went : List ℕ
  pub queries : List QueryOutcome
  pub reads : Appends (known.delivered old.transport) (known.delivered new.transport) came
  pub writes : Appends (known.accepted old.transport) (known.accepted new.transport) went
  pub count : length went ≡ sent
  pub says : HasAsked answers old.asks queries new.asks
  pub keeps : (read written : List ℕ) (earlier : List QueryOutcome) → HasServed read earlier written old.exchange → HasServed (read ++ came) (earlier ++ queries) (written ++ went) new.exchange

-- so many bytes were sent, and none came
pub record Sends {T : Type 0} (known : Transport T) (old : BufferedSession) (before : T) (new : BufferedSession) (after : T) (sent : ℕ) : Type 0 where
  pub went : List ℕ
  pub reads : Appends (known.delivered before) (known.delivered after) []
  pub writes : Appends (known.accepted before) (known.accepted after) went
  pub count : length went ≡ sent
  pub keeps : (read written : List ℕ) (queries : List QueryOutcome) → HasServed read queries written old → HasServed read queries (written ++ went) new

-- some bytes came, and none were sent
pub record Receives {T : Type 0} (known : Transport T) (old : BufferedSession) (before : T) (new : BufferedSession) (after : T) : Type 0 where
  pub came : List ℕ
  pub reads : Appends (known.delivered before) (known.delivered after) came
  pub writes : Appends (known.accepted before) (known.accepted after) []
  pub keeps : (read written : List ℕ) (queries : List QueryOutcome) → HasServed read queries written old → HasServed (read ++ came) queries written new

-- bytes of the client were taken: all that were in the buffer, or that a read brought
abbrev pub HasTaken : {T : Type 0} → (T → ReadOutcome → T → Type 0) → BufferedSession → T → BufferedSession → T → Type 0
HasTaken reads old before new after = (new.buffer ≡ []) × (old.buffer ≡ [] → (n : ℕ) × reads before (read.Bytes n) after)

-- bytes of a client, or their end, were read and aren't taken
abbrev pub HasCome : {T : Type 0} → (T → ReadOutcome → T → Type 0) → BufferedSession → T → Type 0
HasCome {T} reads exchange after = (exchange.buffer ≢ []) ⊎ ((before : T) × reads before read.End after)

-- why a connection has no further turn: it wants bytes, none is left, and the last read would have waited; bytes are to be sent to it, and the last
-- write would have waited; it has bytes or the end of its client's, but no query may be answered; all was sent; or the last call failed
abbrev pub IsNext : {T : Type 0} → Transport T → Bool → Next → BufferedSession → T → Type 0
IsNext known may_ask Turn exchange after = Unit {0}
IsNext {T} known may_ask Readable exchange after = (before : T) × known.reads before read.WouldBlock after × (wants exchange.session ≡ true) × (exchange.buffer ≡ [])
IsNext {T} known may_ask Writable exchange after = (before : T) × known.writes before write.WouldBlock after × (exchange.session.outgoing ≢ [])
IsNext known may_ask Room exchange after = (may_ask ≡ false) × (wants exchange.session ≡ true) × HasCome known.reads exchange after
IsNext known may_ask Done exchange after = is_done exchange.session ≡ true
IsNext {T} known may_ask Failed exchange after = (before : T) × (known.reads before read.Failed after ⊎ known.writes before write.Failed after)
