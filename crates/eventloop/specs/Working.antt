-- What a worker does with its connections (docs/WMS.md, "HTTP").
use Rattle.std.specs.List.{All}
use Rattle.std.specs.Prelude.{◌≡◌, ◌⊎◌, ◌≤◌, ◌<◌, ℕ, List, [], ◌∷◌, length, None, Some, true, false, IfSome}
use Rattle.httpedge.specs.Exchange.{Said}
use Rattle.turns.specs.Pressure.{IsFirst, IsWanted, NoneMay, for_room}
use Rattle.turns.specs.Queue.{has}
use Rattle.turns.specs.Runs.{Reason, Overdue, Unanswered, Yields, Step, Opens, Wakes, Serves, Leaves, Runs, HasRun, WorkerState, turns_of}
use Rattle.turns.specs.Slots.{at_slot, OthersStay}
use Rattle.turns.specs.Table.{Goes, connections, ready_slots, timeouts_of, is_pending, lacks_room}
use Rattle.turns.specs.Times.{deadline}
use Rattle.turns.specs.declared.open_connection.OpenConnection.{OpenConnection}
use Rattle.turns.specs.declared.pressure.Pressure.{Pressure}
use Rattle.turns.specs.declared.pressure.Pressure.TheVariants as pressure
use Rattle.turns.specs.declared.table.ConnectionTable.{ConnectionTable}
use Rattle.turns.specs.declared.times.Phase.TheVariants.{Opened}
use Rattle.turns.specs.declared.times.Timeouts.{Timeouts}
use Rattle.std.specs.declared.thread.PromisedHandle.{PromisedHandle}
use Rattle.eventloop.specs.declared.worker.Worker.{Worker}
use Rattle.eventloop.specs.declared.worker_threads.HasServed.{HasServed}
use Rattle.turns.specs.declared.transport.Transport.{Ghosts as Transport}

-- what a worker has: the table of its connections, and the answerer of their queries
abbrev pub state : {A T P : Type 0} → Worker A T P → WorkerState A T
state worker = record { table = worker.table; asks = worker.asks }

-- a connection was opened at this moment at a slot, or none was
abbrev pub HasOpened : {T : Type 0} → ℕ → ℕ → ConnectionTable T → ConnectionTable T → Type 0
HasOpened {T} now slot old new = (connections new ≡ connections old) ⊎ ((connection : OpenConnection T) × (at_slot (connections new) slot ≡ Some connection) × (connection.phase ≡ Opened now))

-- the first of those that may give way left, or there is none that may
abbrev pub HasGivenWay : {T : Type 0} → Pressure → ConnectionTable T → ConnectionTable T → Type 0
HasGivenWay why old new = Goes old new × (
    ((connections new ≡ connections old) × NoneMay why old)
    ⊎ ((slot : ℕ) × IsFirst why old slot × IsWanted why old × (at_slot (connections new) slot ≡ None) × OthersStay slot (connections old) (connections new)))

-- the time of the connections at the first slots that have nothing to do isn't over at a moment
abbrev pub InTime : {T : Type 0} → ℕ → ℕ → ConnectionTable T → Type 0
InTime now count table = (slot : ℕ) → slot < count → is_pending table slot ≡ false → IfSome (at_slot (connections table) slot) (λ connection. now < deadline (timeouts_of table) connection.phase)

-- each connection whose time was over left, unless it has something to do
pub record HasLooked {T : Type 0} (now : ℕ) (old new : ConnectionTable T) : Type 0 where
  pub goes : Goes old new
  pub in_time : InTime now (length (connections old)) new

-- nobody waited for room in vain, or the slowest reader left, if one may
abbrev pub HasMadeRoom : {T : Type 0} → ℕ → ConnectionTable T → ConnectionTable T → Type 0
HasMadeRoom now old new = (lacks_room old ≡ false) ⊎ HasGivenWay (for_room now old) old new

-- these slots have a turn, of those that there are
abbrev pub HaveTurns : {T : Type 0} → List ℕ → ConnectionTable T → ConnectionTable T → Type 0
HaveTurns slots old new = All (λ slot. slot < length (connections old) → has slot (ready_slots new) ≡ true) slots

-- the law of events: each slot of a table that a poller reports is served after that, or has its turn still, whatever steps are made
abbrev pub EventsServe : {A T : Type 0} → (A → List ℕ → Said → A → Type 0) → Transport T → Type 0
EventsServe {A} {T} answers known =
    (slots : List ℕ) (before : ConnectionTable T) (first last : WorkerState A T) (steps : List (Step T)) → HaveTurns slots before first.table
    → Runs answers known first steps last
    → All (λ slot. slot < length (connections before) → (has slot (turns_of steps) ≡ true) ⊎ (has slot (ready_slots last.table) ≡ true)) slots

-- a connection leaves for this reason at a moment, if the reason has one
abbrev pub IsAt : ℕ → Reason → Type 0
IsAt now (Overdue moment) = moment ≡ now
IsAt now Unanswered = Unit {0}
IsAt now (Yields (pressure.Slot moment)) = moment ≡ now
IsAt now (Yields (pressure.Room moment rate patience)) = moment ≡ now

-- these steps begin at a moment
abbrev pub AreAt : {T : Type 0} → ℕ → List (Step T) → Type 0
AreAt now [] = Unit {0}
AreAt now (Opens slot connection ∷ steps) = AreAt now steps
AreAt now (Wakes slot ∷ steps) = AreAt now steps
AreAt now (Serves turn ∷ steps) = (turn.now ≡ now) × AreAt now steps
AreAt now (Leaves slot why ∷ steps) = IsAt now why × AreAt now steps

-- a worker made some steps at a moment
abbrev pub HasRunAt : {A T : Type 0} → (A → List ℕ → Said → A → Type 0) → Transport T → ℕ → WorkerState A T → WorkerState A T → Type 0
HasRunAt {A} {T} answers known now old new = (steps : List (Step T)) × Runs answers known old steps new × AreAt now steps

-- so many turns at least, at a moment
pub record TurnCount : Type 0 where
  pub least : ℕ
  pub now : ℕ

-- so many turns at least, at the moment of a worker
abbrev pub at_least : {A T P : Type 0} → ℕ → Worker A T P → TurnCount
at_least least worker = record { least = least; now = worker.now }

-- a worker made some steps at a moment, at least so many of which were turns
abbrev pub HasTurned : {A T : Type 0} → (A → List ℕ → Said → A → Type 0) → Transport T → TurnCount → WorkerState A T → WorkerState A T → Type 0
HasTurned {A} {T} answers known turns old new =
    (steps : List (Step T)) × Runs answers known old steps new × AreAt turns.now steps × (turns.least ≤ length (turns_of steps))

-- so many turns were made, or all that there were
abbrev pub HasServedSome : {A T : Type 0} → (A → List ℕ → Said → A → Type 0) → Transport T → TurnCount → WorkerState A T → WorkerState A T → Type 0
HasServedSome {A} {T} answers known turns old new =
    HasTurned answers known turns old new
    ⊎ ((between : WorkerState A T) × HasRunAt answers known turns.now old between × (ready_slots between.table ≡ []) × HasRun answers known between new)

-- the workers of these threads began with these times
abbrev pub BeganWith : {A T P : Type 0} → Timeouts → List (PromisedHandle (Worker A T P) (HasServed A T P)) → Type 0
BeganWith times threads = All (λ thread. timeouts_of thread.promise.begun.value.table ≡ times) threads
