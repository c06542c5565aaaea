-- The parts of a table of connections that its contract speaks of (docs/WMS.md, "HTTP").
use Rattle.std.specs.Prelude.{◌≡◌, ◌<◌, ◌+◌, ◌++◌, ◌==◌, ℕ, List, length, is_some, Option, None, Some, Bool, true, not, ◌||◌, ◌&&◌, nat_lt, if◌then◌else◌}
use Rattle.turns.specs.Connection.{TurnTerms}
use Rattle.turns.specs.Queue.{has, joins}
use Rattle.turns.specs.Room.{line_of, may_be_asked, share_of, size_of}
use Rattle.turns.specs.Slots.{at_slot, OthersStay}
use Rattle.turns.specs.declared.answer_size.AnswerSize.{AnswerSize}
use Rattle.turns.specs.declared.answer_size.AnswerSize.TheVariants.{Small, Large}
use Rattle.turns.specs.declared.open_connection.OpenConnection.{OpenConnection}
use Rattle.turns.specs.declared.served.Closed.{Closed}
use Rattle.turns.specs.declared.times.Timeouts.{Timeouts}
use Rattle.turns.specs.declared.table.ConnectionTable.{ConnectionTable}

-- the connection at each slot
abbrev pub connections : {T : Type 0} → ConnectionTable T → List (Option (OpenConnection T))
connections table = table.slots.items.items

-- the slots that have a turn, in order
abbrev pub ready_slots : {T : Type 0} → ConnectionTable T → List ℕ
ready_slots table = table.ready.order

-- the slots whose connections wait for room for an answer of a size, in order
abbrev pub waiting_for : {T : Type 0} → AnswerSize → ConnectionTable T → List ℕ
waiting_for size table = line_of size table.waiting

-- all that wait for room
abbrev pub waiting_slots : {T : Type 0} → ConnectionTable T → List ℕ
waiting_slots table = waiting_for Small table ++ waiting_for Large table

-- how many wait for room
abbrev pub waiting_count : {T : Type 0} → ConnectionTable T → ℕ
waiting_count table = length (waiting_for Small table) + length (waiting_for Large table)

-- the connection at a slot has something to do: it has a turn, or waits for room
abbrev pub is_pending : {T : Type 0} → ConnectionTable T → ℕ → Bool
is_pending table slot = has slot (ready_slots table) || has slot (waiting_slots table)

-- how long its connections may take
abbrev pub timeouts_of : {T : Type 0} → ConnectionTable T → Timeouts
timeouts_of table = table.timeouts

-- the room: a query is answered only while fewer bytes are to be sent
abbrev pub room_of : {T : Type 0} → ConnectionTable T → ℕ
room_of table = table.room

-- there is room for an answer of a size: fewer bytes of answers than its share of the room are owed
abbrev pub has_room : {T : Type 0} → AnswerSize → ConnectionTable T → Bool
has_room size table = nat_lt table.slots.owed (share_of size table.room)

-- a connection waits for room in vain
abbrev pub lacks_room : {T : Type 0} → ConnectionTable T → Bool
lacks_room table =
    not (length (waiting_for Small table) == 0) && not (has_room Small table) || not (length (waiting_for Large table) == 0) && not (has_room Large table)

-- what the next answer of the connection at a slot is reckoned as
abbrev pub size_at : {T : Type 0} → ConnectionTable T → ℕ → AnswerSize
size_at table slot = size_of (at_slot (connections table) slot)

-- whether a query of the connection at a slot may be answered
abbrev pub may_ask_at : {T : Type 0} → ConnectionTable T → ℕ → Bool
may_ask_at table slot = may_be_asked table.slots table.waiting table.room slot

-- the room that the connection at a slot is given in its turn, if it is
abbrev pub given_at : {T : Type 0} → ConnectionTable T → ℕ → Option AnswerSize
given_at table slot = if may_ask_at table slot then Some (size_at table slot) else None

-- each slot has a connection
abbrev pub IsFull : {T : Type 0} → ConnectionTable T → Type 0
IsFull table = (slot : ℕ) → slot < length (connections table) → is_some (at_slot (connections table) slot) ≡ true

-- the terms of a turn of a slot that ended at a moment: a query may be answered in it where there is room for that
abbrev pub terms_at : {T : Type 0} → ConnectionTable T → ℕ → ℕ → TurnTerms
terms_at table slot ended = record { may_ask = may_ask_at table slot; ended = ended }

-- the limits stay
pub record KeepsLimits {T : Type 0} (old new : ConnectionTable T) : Type 0 where
  pub timeouts : timeouts_of new ≡ timeouts_of old
  pub room : room_of new ≡ room_of old

-- slots came to the queue of those that have a turn, and those that wait for room wait as before
pub record Goes {T : Type 0} (old new : ConnectionTable T) : Type 0 where
  pub keeps : KeepsLimits old new
  pub small : waiting_for Small new ≡ waiting_for Small old
  pub large : waiting_for Large new ≡ waiting_for Large old
  pub joins : (slots : List ℕ) × (ready_slots new ≡ joins (ready_slots old) slots)

-- this connection left its slot, and all others stay
pub record HasLeft {T : Type 0} (slot : ℕ) (connection : OpenConnection T) (old new : ConnectionTable T) : Type 0 where
  pub was : at_slot (connections old) slot ≡ Some connection
  pub gone : at_slot (connections new) slot ≡ None
  pub others : OthersStay slot (connections old) (connections new)

-- a connection left this slot, or all stay
abbrev pub LeftOrStayed : {T : Type 0} → ℕ → Option (OpenConnection T) → ConnectionTable T → ConnectionTable T → Type 0
LeftOrStayed slot None old new = connections new ≡ connections old
LeftOrStayed slot (Some connection) old new = HasLeft slot connection old new

-- a connection that was closed left its slot, or all stay
abbrev pub ClosedOrStayed : {T : Type 0} → Option (Closed T) → ConnectionTable T → ConnectionTable T → Type 0
ClosedOrStayed None old new = connections new ≡ connections old
ClosedOrStayed (Some closed) old new = HasLeft closed.slot closed.connection old new
