-- Room for answers: which of them may be made while others are to be sent (docs/WMS.md, "HTTP").
use Rattle.std.specs.Prelude.{◌≡◌, ℕ, ◌+◌, ◌-◌, ◌/◌, List, [], ◌∷◌, length, Bool, true, false, not, ◌&&◌, ◌==◌, max, nat_lt, if◌then◌else◌, Option, None, Some}
use Rattle.httpedge.specs.Connection.{has_begun}
use Rattle.httpedge.specs.Reckoning.{reckoned_bytes}
use Rattle.turns.specs.Queue.{has, joined}
use Rattle.turns.specs.Slots.{at_slot}
use Rattle.turns.specs.declared.answer_size.AnswerSize.{AnswerSize}
use Rattle.turns.specs.declared.answer_size.AnswerSize.TheVariants.{Small, Large}
use Rattle.turns.specs.declared.answer_size.TheConstants.{FEW_WAITING, LEAST_PATIENCE_MILLIS, SMALL_ANSWER_BYTES}
use Rattle.turns.specs.declared.buffered_session.BufferedSession.{BufferedSession}
use Rattle.turns.specs.declared.open_connection.OpenConnection.{OpenConnection}
use Rattle.turns.specs.declared.pressure.TheConstants.{PATIENCE_MILLIS}
use Rattle.turns.specs.declared.slots.Slots.{Slots}
use Rattle.turns.specs.declared.turn.Next.{Next}
use Rattle.turns.specs.declared.turn.Next.TheVariants as next
use Rattle.turns.specs.declared.waiting_queues.WaitingQueues.{WaitingQueues}

-- the next answer of a session is small: the bytes that came and aren't taken begin a head, and by these it is reckoned so. Where none came, or a
-- part of the head was taken before, it may be large
unfoldable pub is_small : BufferedSession → Bool
is_small exchange =
    not (has_begun exchange.session.course.progress) && (not (length exchange.buffer == 0) && not (nat_lt SMALL_ANSWER_BYTES (reckoned_bytes exchange.buffer)))

-- what the next answer of a connection is reckoned as
abbrev pub size_by : Bool → AnswerSize
size_by true = Small
size_by false = Large

unfoldable pub size_of : {T : Type 0} → Option (OpenConnection T) → AnswerSize
size_of None = Large
size_of (Some connection) = size_by (is_small connection.exchange)

-- the room that answers of a size may fill: a quarter of all is kept for small ones
abbrev pub share_of : AnswerSize → ℕ → ℕ
share_of Small room = room
share_of Large room = room - room / 4

-- the slots that wait for room for an answer of a size, in order
abbrev pub line_of : AnswerSize → WaitingQueues → List ℕ
line_of Small waiting = waiting.small.order
line_of Large waiting = waiting.large.order

-- whether a slot is the next that may have room: none waits for it, or the slot has waited longest
abbrev pub is_next : ℕ → List ℕ → Bool
is_next slot [] = true
is_next slot (first ∷ rest) = first == slot

-- whether a query of the connection at a slot may be answered: there is room for an answer of its size, and no other has waited longer for that
abbrev pub may_be_asked : {T : Type 0} → Slots T → WaitingQueues → ℕ → ℕ → Bool
may_be_asked slots waiting room slot =
    let size : AnswerSize = size_of (at_slot slots.items.items slot) in
    nat_lt slots.owed (share_of size room) && is_next slot (line_of size waiting)

-- whether it is this size
abbrev pub is_size : AnswerSize → Option AnswerSize → Bool
is_size size None = false
is_size Small (Some Small) = true
is_size Small (Some Large) = false
is_size Large (Some Small) = false
is_size Large (Some Large) = true

-- for which room a connection waits after its turn, by what its answer is reckoned as
abbrev pub waits_for : Option Next → AnswerSize → Option AnswerSize
waits_for None size = None
waits_for (Some next.Turn) size = None
waits_for (Some next.Readable) size = None
waits_for (Some next.Writable) size = None
waits_for (Some next.Room) size = Some size
waits_for (Some next.Done) size = None
waits_for (Some next.Failed) size = None

-- a slot leaves those that wait for room, if it has waited longest
abbrev pub without : ℕ → List ℕ → List ℕ
without slot [] = []
without slot (first ∷ rest) = if first == slot then rest else first ∷ rest

-- those that wait after a turn of a slot that had room: the slot left them
abbrev pub line_left : ℕ → Bool → List ℕ → List ℕ
line_left slot had_room line = if had_room then without slot line else line

-- those that wait after a turn of a slot: it left them where it had room, and came to their end where it waits
abbrev pub line_after : ℕ → Bool → Bool → List ℕ → List ℕ
line_after slot had_room waits line = if waits then joined (line_left slot had_room line) slot else line_left slot had_room line

-- the slot that has waited longest has a turn
abbrev pub IsInvited : List ℕ → List ℕ → Type 0
IsInvited line ready = (slot : ℕ) (rest : List ℕ) → line ≡ slot ∷ rest → has slot ready ≡ true

-- how long an answer may stay that is taken too slowly: a second, and less where many wait for room
unfoldable pub patience_for : ℕ → ℕ
patience_for waiting = max LEAST_PATIENCE_MILLIS (PATIENCE_MILLIS / (waiting / FEW_WAITING + 1))

-- what is left of an answer may stay for the second where it is small
abbrev pub patience_with : ℕ → ℕ → ℕ
patience_with patience owed = if nat_lt SMALL_ANSWER_BYTES owed then patience else PATIENCE_MILLIS
