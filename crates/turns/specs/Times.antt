-- The phase of a connection, when it began, and when its time is over (docs/WMS.md, "HTTP").
use Rattle.std.specs.Prelude.{ℕ, ◌+◌, ◌/◌, ◌-◌, ◌^◌, ◌==◌, min, max, Bool, true, false, nat_lt, if◌then◌else◌}
use Rattle.turns.specs.declared.turn.Next.{Next}
use Rattle.turns.specs.declared.turn.Next.TheVariants.{Turn, Room, Done, Failed}
use Rattle.turns.specs.declared.turn.TurnResult.{TurnResult}
use Rattle.turns.specs.declared.times.Timeouts.{Timeouts}
use Rattle.turns.specs.declared.times.Phase.{Phase}
use Rattle.turns.specs.declared.times.Phase.TheVariants.{Opened, Idle, Head, Answer, Drain, Over}

-- the clock and the counts of bytes stop at their largest value
abbrev pub capped : ℕ → ℕ
capped number = min number (2 ^ 64 - 1)

-- how long so many bytes of an answer take at the least rate
abbrev pub time_of : Timeouts → ℕ → ℕ
time_of timeouts bytes = bytes / max timeouts.rate 1

-- up to when no byte of an answer may be taken: for the timeout, and for the time of the bytes that its client may have to take first, half of those
-- that the system took, up to a limit
abbrev pub still_until : Timeouts → ℕ → ℕ → ℕ
still_until timeouts moved sent = capped (capped (moved + timeouts.timeout) + time_of timeouts (min (sent / 2) timeouts.ahead))

-- when the time of a phase is over. An answer's time is over where no byte of it was taken for too long. It is over, too, where all of it takes
-- longer than the grace and the time of its bytes at the least rate
abbrev pub deadline : Timeouts → Phase → ℕ
deadline timeouts (Opened since) = capped (since + timeouts.timeout)
deadline timeouts (Idle since) = capped (since + timeouts.idle)
deadline timeouts (Head since moved) = capped (since + timeouts.timeout)
deadline timeouts (Answer since moved sent) = min (still_until timeouts moved sent) (capped (capped (since + timeouts.grace) + time_of timeouts sent))
deadline timeouts (Drain since) = capped (since + timeouts.drain)
deadline timeouts Over = 0

-- it has failed, or its client has sent all
abbrev pub is_over : Phase → Bool
is_over Over = true
is_over phase = false

-- its last answer was sent
abbrev pub is_draining : Phase → Bool
is_draining (Drain since) = true
is_draining phase = false

-- it waits for a head, or bytes of one came
abbrev pub is_unanswered : Phase → Bool
is_unanswered (Opened since) = true
is_unanswered (Idle since) = true
is_unanswered (Head since moved) = true
is_unanswered phase = false

-- while an answer is to be sent: the time of one that begins is from now on, and bytes of it that were sent are noted
abbrev pub answering : Phase → ℕ → ℕ → Phase
answering (Answer since moved sent) more now = Answer since (if more == 0 then moved else now) (capped (sent + more))
answering phase more now = Answer now now more

-- bytes of a head came: the first of them begin its time, and further ones don't
abbrev pub heading : Phase → ℕ → Phase
heading (Opened since) now = Head now now
heading (Idle since) now = Head now now
heading (Head since moved) now = Head since now
heading phase now = phase

-- while heads are read: bytes came where there is a further turn, or the connection waits for room
abbrev pub reading : Phase → Next → ℕ → Phase
reading phase Turn now = heading phase now
reading phase Room now = heading phase now
reading phase next now = phase

-- where nothing is to be sent: it is between requests once an answer was sent
abbrev pub unanswering : Phase → Next → ℕ → ℕ → Phase
unanswering phase next sent now = if nat_lt 0 sent then Idle now else reading phase next now

-- the phase of a connection that goes on, by whether bytes are still to be sent
abbrev pub going_on : Phase → Next → ℕ → Bool → ℕ → Phase
going_on phase next sent true now = answering phase sent now
going_on phase next sent false now = unanswering phase next sent now

-- the phase by what the connection waits for: its last answer was sent, it has failed, or it goes on
abbrev pub phase_by : Next → Phase → ℕ → Bool → ℕ → Phase
phase_by Done phase sent owes now = Drain now
phase_by Failed phase sent owes now = Over
phase_by next phase sent owes now = going_on phase next sent owes now

-- the phase of a connection after a turn, where some or no bytes are still to be sent
abbrev pub phase_after : Phase → TurnResult → Bool → ℕ → Phase
phase_after phase turned owes now = phase_by turned.next phase turned.sent owes now
