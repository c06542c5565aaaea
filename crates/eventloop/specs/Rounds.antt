-- The rounds of a worker's loop: what it does after each wait, and in which order (docs/WMS.md, "HTTP").
use Rattle.std.specs.Prelude.{◌≡◌, ◌-◌, ℕ, List, [], ◌∷◌, Bool, None, IfSome, MatchBool, false, not, nat_lt, max, if◌then◌else◌}
use Rattle.eventloop.specs.Working.{HasGivenWay, HasLooked, HasMadeRoom, HasRunAt, HasServedSome, HasTurned, HaveTurns, state}
use Rattle.eventloop.specs.declared.handed_over.Ending.{Ending}
use Rattle.eventloop.specs.declared.handed_over.Ending.TheVariants.{GoesOn, Finishes, Stops}
use Rattle.eventloop.specs.declared.orders.Orders.{Orders}
use Rattle.eventloop.specs.declared.worker.Worker.{Worker}
use Rattle.httpedge.specs.Exchange.{Said}
use Rattle.httpedge.specs.Session.{HasAsked, QueryOutcome}
use Rattle.turns.specs.Runs.{HasRun, WorkerState}
use Rattle.turns.specs.Slots.{at_slot}
use Rattle.turns.specs.Table.{connections}
use Rattle.turns.specs.Times.{is_unanswered}
use Rattle.turns.specs.declared.pressure.Pressure.TheVariants.{Slot}
use Rattle.turns.specs.declared.table.ConnectionTable.{ConnectionTable}
use Rattle.turns.specs.declared.transport.Transport.{Ghosts as Transport}

-- what a worker knows of times stays
abbrev pub KeepsMoments : {A T P : Type 0} → Worker A T P → Worker A T P → Type 0
KeepsMoments old new = (new.now ≡ old.now) × (new.looked ≡ old.looked)

-- a worker looks for connections whose time is over, where it did so last a tenth of a second ago or longer
abbrev pub is_due : {A T P : Type 0} → Worker A T P → Bool
is_due worker = not (nat_lt (worker.now - worker.looked) 100)

-- each slot is free
abbrev pub AllFree : {T : Type 0} → ConnectionTable T → Type 0
AllFree table = (slot : ℕ) → at_slot (connections table) slot ≡ None

-- where a descriptor is needed, the connection that comes first gave way, if one may
abbrev pub HasObeyed : {T : Type 0} → ℕ → Bool → ConnectionTable T → ConnectionTable T → Type 0
HasObeyed now is_pressed old new = MatchBool is_pressed (HasGivenWay (Slot now) old new) (new ≡ old)

-- turns were made at a moment, up to the first in which a query was asked: without one, 64 or all that there were
pub record HasServedRound {A T : Type 0} (answers : A → List ℕ → Said → A → Type 0) (known : Transport T) (now : ℕ) (old new : WorkerState A T) : Type 0 where
  pub asked : Bool
  pub turns : MatchBool asked (HasTurned answers known (record { least = 1; now = now }) old new) (HasServedSome answers known (record { least = 64; now = now }) old new)
  pub queries : List QueryOutcome
  pub once : HasAsked answers old.asks queries new.asks

-- where a worker stops, only connections that are being answered are left; else all stay
abbrev pub HasEndedBy : {T : Type 0} → Ending → ConnectionTable T → ConnectionTable T → Type 0
HasEndedBy GoesOn old new = new ≡ old
HasEndedBy Finishes old new = new ≡ old
HasEndedBy Stops old new = (slot : ℕ) → IfSome (at_slot (connections new) slot) (λ connection. is_unanswered connection.phase ≡ false)

-- a round at the moment of a worker: it obeys its orders, takes over connections that wait, makes turns, makes room, looks for those whose time is over,
-- where that is due, and closes those that aren't being answered, where it stops. An answerer is asked in turns alone
pub record IsRound {A T P : Type 0} (answers : A → List ℕ → Said → A → Type 0) (known : Transport T) (orders : Orders) (old new : Worker A T P) : Type 0 where
  pub obeyed : ConnectionTable T
  pub taken : ConnectionTable T
  pub served : WorkerState A T
  pub freed : ConnectionTable T
  pub looked : ConnectionTable T
  pub obeys : HasObeyed old.now orders.is_pressed old.table obeyed
  pub takes : HasRunAt answers known old.now (record { table = obeyed; asks = old.asks }) (record { table = taken; asks = old.asks })
  pub serves : HasServedRound answers known old.now (record { table = taken; asks = old.asks }) served
  pub frees : HasMadeRoom old.now served.table freed
  pub looks : MatchBool (is_due old) (HasLooked old.now freed looked) (looked ≡ freed)
  pub ends : HasEndedBy orders.ending looked new.table
  pub asks : new.asks ≡ served.asks
  pub now : new.now ≡ old.now
  pub last_look : new.looked ≡ (if is_due old then old.now else old.looked)

-- a worker waited: the slots that were reported have their turns, and its moment is the one that a clock showed then, or a later one that it showed before
pub record HasWaited {A T P : Type 0} (shows : ℕ → Type 0) (old new : Worker A T P) : Type 0 where
  pub slots : List ℕ
  pub turns : HaveTurns slots old.table new.table
  pub connections : connections new.table ≡ connections old.table
  pub asks : new.asks ≡ old.asks
  pub moment : ℕ
  pub shown : shows moment
  pub now : new.now ≡ max old.now moment
  pub last_look : new.looked ≡ old.looked

-- a worker made these rounds, each after a wait
abbrev pub AreRounds : {A T P : Type 0} → (A → List ℕ → Said → A → Type 0) → Transport T → (ℕ → Type 0) → Worker A T P → List (Worker A T P × Worker A T P) → Worker A T P → Type 0
AreRounds answers known shows first [] last = last ≡ first
AreRounds answers known shows first ((woken, next) ∷ rounds) last =
    HasWaited shows first woken × ((orders : Orders) × IsRound answers known orders woken next) × AreRounds answers known shows next rounds last

-- a worker made some rounds
abbrev pub HasWorked : {A T P : Type 0} → (A → List ℕ → Said → A → Type 0) → Transport T → (ℕ → Type 0) → Worker A T P → Worker A T P → Type 0
HasWorked {A} {T} {P} answers known shows first last = (rounds : List (Worker A T P × Worker A T P)) × AreRounds answers known shows first rounds last

-- a worker made some rounds, and was told to end before the last one
pub record HasFinished {A T P : Type 0} (answers : A → List ℕ → Said → A → Type 0) (known : Transport T) (shows : ℕ → Type 0) (first last : Worker A T P) : Type 0 where
  pub before : Worker A T P
  pub worked : HasWorked answers known shows first before
  pub woken : Worker A T P
  pub waited : HasWaited shows before woken
  pub orders : Orders
  pub told : orders.ending ≡ GoesOn → ⊥
  pub round : IsRound answers known orders woken last

-- a worker had no connection, made rounds until it was told to end, and has none: what it did with those that it had are some steps
pub record HasBeen {A T P : Type 0} (answers : A → List ℕ → Said → A → Type 0) (known : Transport T) (worker : Worker A T P) : Type 0 where
  pub start : Worker A T P
  pub free : AllFree start.table
  pub finished : HasFinished answers known (λ _. Unit {0}) start worker
  pub ran : HasRun answers known (state start) (state worker)
  pub left : AllFree worker.table
