-- The bytes that are read after the last answer (docs/WMS.md, "HTTP").
use Rattle.std.specs.Prelude.{ℕ, nat_lt, if◌then◌else◌}
use Rattle.turns.specs.declared.drained.TheConstants.{MAX_DRAINED_BYTES}
use Rattle.turns.specs.declared.outcomes.ReadOutcome.{ReadOutcome}
use Rattle.turns.specs.declared.outcomes.ReadOutcome.TheVariants as read
use Rattle.turns.specs.declared.times.Phase.{Phase}
use Rattle.turns.specs.declared.times.Phase.TheVariants as phase
use Rattle.turns.specs.declared.turn.Next.{Next}
use Rattle.turns.specs.declared.turn.Next.TheVariants as next

-- how many bytes a read brought
abbrev pub brought : ReadOutcome → ℕ
brought (read.Bytes n) = n
brought read.WouldBlock = 0
brought read.End = 0
brought read.Failed = 0

-- what a connection waits for after a read whose bytes were dropped
abbrev pub next_drained : ReadOutcome → ℕ → Next
next_drained (read.Bytes n) dropped = if nat_lt MAX_DRAINED_BYTES dropped then next.Done else next.Turn
next_drained read.WouldBlock dropped = next.Readable
next_drained read.End dropped = next.Done
next_drained read.Failed dropped = next.Failed

-- the phase of a connection after such a read
abbrev pub phase_drained : Next → Phase → Phase
phase_drained next.Done old = phase.Over
phase_drained next.Failed old = phase.Over
phase_drained other old = old
