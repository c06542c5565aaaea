-- Which connection is closed before its time is over (docs/WMS.md, "HTTP").
use Rattle.std.specs.Prelude.{◌≡◌, ◌≤◌, ◌<◌, ℕ, ◌+◌, ◌-◌, ◌/◌, ◌^◌, ◌||◌, ◌&&◌, false, true, Option, None, Some, nat_lt, if◌then◌else◌}
use Rattle.turns.specs.Queue.{has}
use Rattle.turns.specs.Room.{patience_for, patience_with}
use Rattle.turns.specs.Slots.{at_slot}
use Rattle.turns.specs.Connection.{owed_by}
use Rattle.turns.specs.Table.{connections, ready_slots, waiting_slots, is_pending, lacks_room, timeouts_of, waiting_count}
use Rattle.turns.specs.declared.open_connection.OpenConnection.{OpenConnection}
use Rattle.turns.specs.declared.pressure.Pressure.{Pressure}
use Rattle.turns.specs.declared.pressure.Pressure.TheVariants.{Slot, Room}
use Rattle.turns.specs.declared.pressure.Taken.{Taken}
use Rattle.turns.specs.declared.pressure.TheConstants.{LONG_WAIT_MILLIS, PATIENCE_MILLIS}
use Rattle.turns.specs.declared.table.ConnectionTable.{ConnectionTable}
use Rattle.turns.specs.declared.times.Phase.{Phase}
use Rattle.turns.specs.declared.times.Phase.TheVariants.{Opened, Idle, Head, Answer}

-- a connection that was opened, or is between requests, may give way after a second, by when that began: before each head where it was so for ten
-- seconds, and after each head else
abbrev pub idle_rank : ℕ → ℕ → Option ℕ
idle_rank passed since = if nat_lt passed PATIENCE_MILLIS then None else (if nat_lt passed LONG_WAIT_MILLIS then Some (2 ^ 65 + since) else Some since)

-- a head may give way after a second, by when its last bytes came
abbrev pub head_rank : ℕ → ℕ → Option ℕ
head_rank passed moved = if nat_lt passed PATIENCE_MILLIS then None else Some (2 ^ 64 + moved)

-- an answer that takes longer than the patience may be broken off where no byte of it was taken for as long, or fewer than the least rate asks for:
-- by its rate, in whole bytes per millisecond
abbrev pub answer_rank : ℕ → ℕ → ℕ → Taken → Option ℕ
answer_rank rate patience passed taken =
    if nat_lt patience passed && (nat_lt patience taken.still || nat_lt (taken.sent / passed) rate) then Some (taken.sent / passed) else None

-- for a slot, connections that were opened or are between requests may give way, and heads; for room, answers, of which so many bytes are to be sent
abbrev pub rank : Pressure → Phase → ℕ → Option ℕ
rank (Slot now) (Opened since) owed = idle_rank (now - since) since
rank (Slot now) (Idle since) owed = idle_rank (now - since) since
rank (Slot now) (Head since moved) owed = head_rank (now - since) moved
rank (Room now rate patience) (Answer since moved sent) owed =
    answer_rank rate (patience_with patience owed) (now - since) (record { still = now - moved; sent = sent })
rank pressure phase owed = None

-- the rank of a connection, if there is one
abbrev pub rank_of : {T : Type 0} → Pressure → Option (OpenConnection T) → Option ℕ
rank_of pressure None = None
rank_of pressure (Some connection) = rank pressure connection.phase (owed_by connection)

-- the rank of the connection at a slot of a table: it has none while it has a turn or waits for room
abbrev pub rank_at : {T : Type 0} → Pressure → ConnectionTable T → ℕ → Option ℕ
rank_at pressure table slot = if is_pending table slot then None else rank_of pressure (at_slot (connections table) slot)

-- the connection at a slot may give way, and none that may comes before it
pub record IsFirst {T : Type 0} (pressure : Pressure) (table : ConnectionTable T) (slot : ℕ) : Type 0 where
  pub least : ℕ
  pub is : rank_at pressure table slot ≡ Some least
  pub others : (other other_rank : ℕ) → rank_at pressure table other ≡ Some other_rank → least ≤ other_rank

-- no connection may give way
abbrev pub NoneMay : {T : Type 0} → Pressure → ConnectionTable T → Type 0
NoneMay pressure table = (slot : ℕ) → rank_at pressure table slot ≡ None

-- the need for room at a moment: answers may stay less long, the more connections wait
abbrev pub for_room : {T : Type 0} → ℕ → ConnectionTable T → Pressure
for_room now table = Room now (timeouts_of table).rate (patience_for (waiting_count table))

-- others are in need of what a connection gives up: of room only where one waits for it and there is none
abbrev pub IsWanted : {T : Type 0} → Pressure → ConnectionTable T → Type 0
IsWanted (Slot now) table = Unit {0}
IsWanted (Room now rate patience) table = lacks_room table ≡ true

-- the law of giving way: a connection that gives way has no turn, and doesn't wait for room
abbrev pub YieldsWithoutTurn : Type 0 → Type 0
YieldsWithoutTurn T = (pressure : Pressure) (table : ConnectionTable T) (slot : ℕ) → IsFirst pressure table slot → (has slot (ready_slots table) ≡ false) × (has slot (waiting_slots table) ≡ false)

-- the lesser of two ranks with their slots, the earlier one where they are equal
abbrev pub first_of : Option (ℕ × ℕ) → ℕ → Option ℕ → Option (ℕ × ℕ)
first_of found slot None = found
first_of None slot (Some rank) = Some (slot, rank)
first_of (Some (other, least)) slot (Some rank) = if nat_lt rank least then Some (slot, rank) else Some (other, least)

-- the result of a search in some slots: no connection may give way, or the first of those that may
abbrev pub IsFoundIn : {T : Type 0} → Pressure → ConnectionTable T → ℕ → Option (ℕ × ℕ) → Type 0
IsFoundIn pressure table count None = (other : ℕ) → other < count → rank_at pressure table other ≡ None
IsFoundIn pressure table count (Some (slot, least)) =
    (rank_at pressure table slot ≡ Some least)
    × ((other other_rank : ℕ) → other < count → rank_at pressure table other ≡ Some other_rank → least ≤ other_rank)
