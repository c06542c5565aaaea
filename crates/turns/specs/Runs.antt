-- Runs of a table of connections: what each connection was sent, and that none is forgotten (docs/WMS.md, "HTTP").
use Rattle.std.specs.Prelude.{◌≡◌, ◌≢◌, ◌<◌, ◌≤◌, IfNone, IfSome, length, ◌⊎◌, ℕ, List, [], ◌∷◌, ◌++◌, Option, None, Some, Bool, true, false, ◌==◌, if◌then◌else◌}
use Rattle.std.specs.Io.KnownBytes.{Appends}
use Rattle.httpedge.specs.Exchange.{Said}
use Rattle.httpedge.specs.Session.{QueryOutcome, HasRespondedWith, new_session}
use Rattle.httpedge.specs.declared.stage.Stage.TheVariants.{Ended}
use Rattle.turns.specs.Pressure.{IsFirst, IsWanted}
use Rattle.turns.specs.Queue.{has, joins, before}
use Rattle.turns.specs.Room.{is_size, line_after, waits_for}
use Rattle.turns.specs.Slots.{SlotState, at_slot, slot_state, OthersStay, HasTurn}
use Rattle.turns.specs.Table.{Goes, connections, given_at, has_room, may_ask_at, ready_slots, size_at, waiting_for, waiting_slots, terms_at, is_pending, timeouts_of, KeepsLimits}
use Rattle.turns.specs.Times.{deadline, is_over, is_draining, is_unanswered}
use Rattle.turns.specs.declared.answer_size.AnswerSize.{AnswerSize}
use Rattle.turns.specs.declared.answer_size.AnswerSize.TheVariants.{Small, Large}
use Rattle.turns.specs.declared.open_connection.OpenConnection.{OpenConnection}
use Rattle.turns.specs.declared.pressure.Pressure.{Pressure}
use Rattle.turns.specs.declared.outcomes.ReadOutcome.TheVariants as read
use Rattle.turns.specs.declared.outcomes.WriteOutcome.TheVariants as write
use Rattle.turns.specs.declared.served.Served.{Served}
use Rattle.turns.specs.declared.table.ConnectionTable.{ConnectionTable}
use Rattle.turns.specs.declared.turn.Next.{Next}
use Rattle.turns.specs.declared.turn.Next.TheVariants.{Turn, Room}
use Rattle.turns.specs.declared.transport.Transport.{Ghosts as Transport}

-- why a connection leaves its slot: its time is over at a moment, its worker ends and it isn't being answered, or it gives way to others
pub data Reason : Type 0 where
  Overdue : ℕ → Reason
  Unanswered : Reason
  Yields : Pressure → Reason

-- what a reason needs of the connection at a slot, if there is one. While it has a turn or waits for room its time isn't over
abbrev pub IsReason : {T : Type 0} → Reason → ConnectionTable T → ℕ → Type 0
IsReason (Overdue now) table slot =
    (is_pending table slot ≡ false) × IfSome (at_slot (connections table) slot) (λ connection. deadline (timeouts_of table) connection.phase ≤ now)
IsReason Unanswered table slot = IfSome (at_slot (connections table) slot) (λ connection. is_unanswered connection.phase ≡ true)
IsReason (Yields pressure) table slot = IsFirst pressure table slot × IsWanted pressure table

-- a turn: the slot that has it, the room that it is given for an answer, if it is, what the connection there waits for after it, if there is one, whether
-- a query may have been asked, and when it began and ended
pub record SlotTurn : Type 0 where
  pub slot : ℕ
  pub given : Option AnswerSize
  pub next : Option Next
  pub asked : Bool
  pub now : ℕ
  pub ended : ℕ

-- the turn that a table made which begins at a moment
abbrev pub turn_of : {T : Type 0} → ConnectionTable T → ℕ → Served → SlotTurn
turn_of table now served = record {
  slot = served.slot;
  given = given_at table served.slot;
  next = served.next;
  asked = served.asked;
  now = now;
  ended = served.ended;
}

-- what a slot of a table has, beside an answerer of its queries
abbrev pub state_at : {A T : Type 0} → ConnectionTable T → ℕ → A → SlotState A T
state_at table slot asks = slot_state (connections table) slot asks

-- a step of a table: a connection comes to a slot, the connection at a slot may go on, a slot has its turn, or the connection at a slot leaves it for a
-- reason
pub data Step (T : Type 0) : Type 0 where
  Opens : ℕ → OpenConnection T → Step T
  Wakes : ℕ → Step T
  Serves : SlotTurn → Step T
  Leaves : ℕ → Reason → Step T

-- what a worker has at a moment: the table of its connections, and the answerer of their queries
pub record WorkerState (A T : Type 0) : Type 0 where
  pub table : ConnectionTable T
  pub asks : A

-- a connection of which nothing came and to which nothing is to be sent
pub record IsNew {T : Type 0} (connection : OpenConnection T) : Type 0 where
  pub session : connection.exchange.session ≡ new_session
  pub buffer : connection.exchange.buffer ≡ []

-- the first of the queue had its turn, if there is a connection at that slot, and nothing else changed
pub record IsTurnOf {A T : Type 0} (answers : A → List ℕ → Said → A → Type 0) (known : Transport T) (old : WorkerState A T) (turn : SlotTurn) (new : WorkerState A T) : Type 0 where
  pub rest : List ℕ
  pub slots : List ℕ
  pub first : ready_slots old.table ≡ turn.slot ∷ rest
  pub later : ready_slots new.table ≡ joins rest slots
  pub given : turn.given ≡ given_at old.table turn.slot
  pub own : IfSome turn.next (λ next. HasTurn answers known (terms_at old.table turn.slot turn.ended) (slot_state (connections old.table) turn.slot old.asks)
      (slot_state (connections new.table) turn.slot new.asks) next)
  pub nobody : IfNone turn.next ((connections new.table ≡ connections old.table) × (new.asks ≡ old.asks))
  pub empty : IfNone turn.next (at_slot (connections old.table) turn.slot ≡ None)
  pub others : OthersStay turn.slot (connections old.table) (connections new.table)
  pub ends : turn.now ≤ turn.ended
  pub unasked : turn.asked ≡ false → (turn.ended ≡ turn.now) × (new.asks ≡ old.asks)
  pub turns : turn.next ≡ Some Turn → has turn.slot (ready_slots new.table) ≡ true
  pub waits : turn.next ≡ Some Room → has turn.slot (waiting_slots new.table) ≡ true
  pub keeps : KeepsLimits old.table new.table
  pub small : waiting_for Small new.table ≡ line_after turn.slot (may_ask_at old.table turn.slot) (is_size Small (waits_for turn.next (size_at new.table turn.slot)))
      (waiting_for Small old.table)
  pub large : waiting_for Large new.table ≡ line_after turn.slot (may_ask_at old.table turn.slot) (is_size Large (waits_for turn.next (size_at new.table turn.slot)))
      (waiting_for Large old.table)

-- a worker made a step
abbrev pub Steps : {A T : Type 0} → (A → List ℕ → Said → A → Type 0) → Transport T → WorkerState A T → Step T → WorkerState A T → Type 0
Steps answers known old (Opens slot connection) new =
    (new.asks ≡ old.asks) × IsNew connection × (at_slot (connections old.table) slot ≡ None) × (at_slot (connections new.table) slot ≡ Some connection)
    × OthersStay slot (connections old.table) (connections new.table) × (has slot (ready_slots new.table) ≡ true) × Goes old.table new.table
Steps answers known old (Wakes slot) new = (new.asks ≡ old.asks) × (connections new.table ≡ connections old.table) × Goes old.table new.table
Steps answers known old (Serves turn) new = IsTurnOf answers known old turn new
Steps answers known old (Leaves slot why) new =
    (new.asks ≡ old.asks) × IsReason why old.table slot × (at_slot (connections new.table) slot ≡ None) × OthersStay slot (connections old.table) (connections new.table)
    × Goes old.table new.table

-- a worker made these steps, one after the other
abbrev pub Runs : {A T : Type 0} → (A → List ℕ → Said → A → Type 0) → Transport T → WorkerState A T → List (Step T) → WorkerState A T → Type 0
Runs answers known old [] new = (new.table ≡ old.table) × (new.asks ≡ old.asks)
Runs {A} {T} answers known old (step ∷ steps) new = (between : WorkerState A T) × Steps answers known old step between × Runs answers known between steps new

-- the connections that came last to each slot
abbrev pub comes : {T : Type 0} → (ℕ → Option (OpenConnection T)) → Step T → ℕ → Option (OpenConnection T)
comes found (Opens slot connection) other = if slot == other then Some connection else found other
comes found (Wakes slot) other = found other
comes found (Serves turn) other = found other
comes found (Leaves slot why) other = found other

abbrev pub all_come : {T : Type 0} → (ℕ → Option (OpenConnection T)) → List (Step T) → ℕ → Option (OpenConnection T)
all_come found [] = found
all_come found (step ∷ steps) = all_come (comes found step) steps

-- an answerer gave each of these outcomes to its query at some moment
abbrev pub AreSaid : {A : Type 0} → (A → List ℕ → Said → A → Type 0) → List QueryOutcome → Type 0
AreSaid answers [] = Unit {0}
AreSaid {A} answers (one ∷ others) = ((old new : A) × answers old one.query one.said new) × AreSaid answers others

-- since a connection came, `read` came of its client, and `written` was sent to it. Up to the bytes that are left or dropped, `written` and what is to be
-- sent answer `read`, by outcomes that the answerer gave
pub record IsAnswered {A T : Type 0} (answers : A → List ℕ → Said → A → Type 0) (known : Transport T) (first now : OpenConnection T) : Type 0 where
  pub read : List ℕ
  pub written : List ℕ
  pub queries : List QueryOutcome
  pub front : List ℕ
  pub rest : List ℕ
  pub is : read ≡ front ++ rest
  pub came : Appends (known.delivered first.transport) (known.delivered now.transport) read
  pub went : Appends (known.accepted first.transport) (known.accepted now.transport) written
  pub said : AreSaid answers queries
  pub responded : HasRespondedWith front queries written now.exchange.session
  pub left : is_over now.phase ≡ false → is_draining now.phase ≡ false → (rest ≡ now.exchange.buffer) × (now.exchange.session.stage ≡ Ended → now.exchange.buffer ≡ [])

-- a connection has nothing to do until an event comes: it is over; or the last read or the last write would have waited
abbrev pub IsQuiet : {T : Type 0} → Transport T → OpenConnection T → Type 0
IsQuiet {T} known now =
    (is_over now.phase ≡ true)
    ⊎ (((before : T) × known.reads before read.WouldBlock now.transport × (now.exchange.buffer ≡ []))
    ⊎ ((before : T) × known.writes before write.WouldBlock now.transport × (now.exchange.session.outgoing ≢ [])))

-- the connection at a slot came there, is answered, and isn't forgotten: it has a turn, waits for room, or an event will come for it
pub record IsKept {A T : Type 0} (answers : A → List ℕ → Said → A → Type 0) (known : Transport T) (found : ℕ → Option (OpenConnection T)) (table : ConnectionTable T) (slot : ℕ) (now : OpenConnection T) : Type 0 where
  pub first : OpenConnection T
  pub came : found slot ≡ Some first
  pub answered : IsAnswered answers known first now
  pub held : (has slot (ready_slots table) ≡ true) ⊎ ((has slot (waiting_slots table) ≡ true) ⊎ IsQuiet known now)

-- the law of runs: from a table without connections, whatever its steps, each connection at a slot is that which came there last, is answered by what its
-- client sent, and isn't forgotten
abbrev pub RunsAnswer : {A T : Type 0} → (A → List ℕ → Said → A → Type 0) → Transport T → Type 0
RunsAnswer {A} {T} answers known =
    (first last : WorkerState A T) (steps : List (Step T)) → ((slot : ℕ) → at_slot (connections first.table) slot ≡ None)
    → Runs answers known first steps last
    → (slot : ℕ) (now : OpenConnection T) → at_slot (connections last.table) slot ≡ Some now → IsKept answers known (all_come (λ _. None) steps) last.table slot now

-- the slots that had a turn, in order
abbrev pub turns_of : {T : Type 0} → List (Step T) → List ℕ
turns_of [] = []
turns_of (Opens slot connection ∷ steps) = turns_of steps
turns_of (Wakes slot ∷ steps) = turns_of steps
turns_of (Serves turn ∷ steps) = turn.slot ∷ turns_of steps
turns_of (Leaves slot why ∷ steps) = turns_of steps

-- the law of turns in runs: a slot that has a turn has it after the turns of those before it in the queue, and no others, whatever steps are made
abbrev pub RunsServe : {A T : Type 0} → (A → List ℕ → Said → A → Type 0) → Transport T → Type 0
RunsServe {A} {T} answers known =
    (first last : WorkerState A T) (steps : List (Step T)) → Runs answers known first steps last
    → (slot : ℕ) → has slot (ready_slots first.table) ≡ true → length (before slot (ready_slots first.table)) < length (turns_of steps) → has slot (turns_of steps) ≡ true

-- the law of turns that stay: whatever steps are made, a slot that has a turn is served, or has its turn still
abbrev pub TurnsStay : {A T : Type 0} → (A → List ℕ → Said → A → Type 0) → Transport T → Type 0
TurnsStay {A} {T} answers known =
    (first last : WorkerState A T) (steps : List (Step T)) → Runs answers known first steps last
    → (slot : ℕ) → has slot (ready_slots first.table) ≡ true → (has slot (turns_of steps) ≡ true) ⊎ (has slot (ready_slots last.table) ≡ true)

-- the slots that were given room for an answer of a size in their turns, in order
abbrev pub given_of : {T : Type 0} → AnswerSize → List (Step T) → List ℕ
given_of size [] = []
given_of size (Opens slot connection ∷ steps) = given_of size steps
given_of size (Wakes slot ∷ steps) = given_of size steps
given_of size (Serves turn ∷ steps) = if is_size size turn.given then turn.slot ∷ given_of size steps else given_of size steps
given_of size (Leaves slot why ∷ steps) = given_of size steps

-- the law of room: a slot that waits for room for an answer of a size is given room after those that waited before it, and no others, whatever steps
-- are made
abbrev pub RoomServes : {A T : Type 0} → (A → List ℕ → Said → A → Type 0) → Transport T → Type 0
RoomServes {A} {T} answers known =
    (size : AnswerSize) (first last : WorkerState A T) (steps : List (Step T)) → Runs answers known first steps last
    → (slot : ℕ) → has slot (waiting_for size first.table) ≡ true → length (before slot (waiting_for size first.table)) < length (given_of size steps)
    → (has slot (given_of Small steps) ≡ true) ⊎ (has slot (given_of Large steps) ≡ true)

-- the law of those that wait longest: while there is room for an answer of a size, the slot that has waited longest for it has a turn
abbrev pub RoomInvites : Type 0 → Type 0
RoomInvites T =
    (size : AnswerSize) (table : ConnectionTable T) → has_room size table ≡ true
    → (slot : ℕ) (rest : List ℕ) → waiting_for size table ≡ slot ∷ rest → has slot (ready_slots table) ≡ true

-- the law of times: a connection that leaves because its time is over has no turn, and doesn't wait for room
abbrev pub OverdueWithoutTurn : Type 0 → Type 0
OverdueWithoutTurn T = (now : ℕ) (table : ConnectionTable T) (slot : ℕ) → IsReason (Overdue now) table slot → (has slot (ready_slots table) ≡ false) × (has slot (waiting_slots table) ≡ false)

-- the slots whose connections left because their worker ends, in order
abbrev pub ends_of : {T : Type 0} → List (Step T) → List ℕ
ends_of [] = []
ends_of (Opens slot connection ∷ steps) = ends_of steps
ends_of (Wakes slot ∷ steps) = ends_of steps
ends_of (Serves turn ∷ steps) = ends_of steps
ends_of (Leaves slot (Overdue now) ∷ steps) = ends_of steps
ends_of (Leaves slot Unanswered ∷ steps) = slot ∷ ends_of steps
ends_of (Leaves slot (Yields pressure) ∷ steps) = ends_of steps

-- the law of connections that have a turn: whatever steps are made, such a connection is served, its worker ends, or it is still at its slot
abbrev pub KeepsUntilServed : {A T : Type 0} → (A → List ℕ → Said → A → Type 0) → Transport T → Type 0
KeepsUntilServed {A} {T} answers known =
    (first last : WorkerState A T) (steps : List (Step T)) → Runs answers known first steps last
    → (slot : ℕ) (connection : OpenConnection T) → at_slot (connections first.table) slot ≡ Some connection → has slot (ready_slots first.table) ≡ true
    → (has slot (turns_of steps) ≡ true) ⊎ ((has slot (ends_of steps) ≡ true) ⊎ (at_slot (connections last.table) slot ≡ Some connection))

-- a worker made some steps
abbrev pub HasRun : {A T : Type 0} → (A → List ℕ → Said → A → Type 0) → Transport T → WorkerState A T → WorkerState A T → Type 0
HasRun {A} {T} answers known old new = (steps : List (Step T)) × Runs answers known old steps new
