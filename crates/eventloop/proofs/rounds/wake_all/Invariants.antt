use Rattle.std.proofs.Common.{◌≡◌, ◌<◌, ℕ, length, get_or, true}
use Rattle.turns.specs.Queue.{has}
use Rattle.turns.specs.Table.{Goes}
use Rattle.turns.specs.Table.{Goes, connections, ready_slots}
use Rattle.eventloop.proofs.rounds.wake_all.Given as goal

-- the slots so far have a turn
abbrev pub invariant-loop-slot : goal.invariant-loop-slot
invariant-loop-slot g l =
    ((k : ℕ) → k < l.slot-index → get_or l.slots k 0 < length (connections l.fn.table) → has (get_or l.slots k 0) (ready_slots l.table) ≡ true)
    × (connections l.table ≡ connections l.fn.table) × Goes l.fn.table l.table
