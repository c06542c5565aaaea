-- How long a connection may take (docs/WMS.md, "HTTP").
use Rattle.std.specs.Prelude.{◌≡◌, ℕ, ◌+◌, ◌-◌, ◌*◌, ◌<◌, ◌≤◌, Option, None, Some}
use Rattle.commandline.specs.declared.subcommand.Service.{Service}
use Rattle.turns.specs.declared.times.Timeouts.{Timeouts}

-- the rest of a time at an instant after it began, in nanoseconds; none where it is over
abbrev pub IsLeft : ℕ → ℕ → ℕ → Option ℕ → Type 0
IsLeft began whole now None = whole ≤ now - began
IsLeft began whole now (Some left) = (0 < left) × (left + (now - began) ≡ whole)

-- how long a connection of a client may take, in milliseconds, by the options of a service: idle, for a head, for an answer of which nothing is
-- taken, and for an answer. The bytes of an answer have further time, a millisecond for 16 of them; of the time in which nothing is taken half of
-- those that the system took, 2 MiB at most. What a client sends after its last answer is read for 2 seconds
pub record IsTimed (service : Service) (timeouts : Timeouts) : Type 0 where
  pub idle : timeouts.idle ≡ service.idle
  pub timeout : timeouts.timeout ≡ 1000 * service.timeout
  pub grace : timeouts.grace ≡ 1000 * service.timeout
  pub rate : timeouts.rate ≡ 16
  pub drain : timeouts.drain ≡ 2000
  pub ahead : timeouts.ahead ≡ 2097152
