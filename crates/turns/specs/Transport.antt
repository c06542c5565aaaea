-- What the results of calls that never wait mean for a connection.
use Rattle.std.specs.Prelude.{◌≤◌, ◌<◌, ℕ, List, [], length, take, Option}
use Rattle.std.specs.Io.KnownBytes.{Appends}
use Rattle.turns.specs.declared.outcomes.ReadOutcome.{ReadOutcome}
use Rattle.turns.specs.declared.outcomes.ReadOutcome.TheVariants as read
use Rattle.turns.specs.declared.outcomes.WriteOutcome.{WriteOutcome}
use Rattle.turns.specs.declared.outcomes.WriteOutcome.TheVariants as write

-- the bytes that a read gave of those that came
abbrev pub HasRead : Option (List ℕ) → Option (List ℕ) → ReadOutcome → List ℕ → Type 0
HasRead old new (read.Bytes n) room = (0 < n) × (n ≤ length room) × Appends old new (take n room)
HasRead old new read.WouldBlock room = Appends old new []
HasRead old new read.End room = Appends old new []
HasRead old new read.Failed room = Appends old new []

-- how many bytes of a text a write took
abbrev pub HasWritten : Option (List ℕ) → Option (List ℕ) → List ℕ → WriteOutcome → Type 0
HasWritten old new text (write.Bytes n) = (0 < n) × (n ≤ length text) × Appends old new (take n text)
HasWritten old new text write.WouldBlock = Appends old new []
HasWritten old new text write.Failed = Appends old new []

-- how many bytes a write took
abbrev pub count_of : WriteOutcome → ℕ
count_of (write.Bytes n) = n
count_of write.WouldBlock = 0
count_of write.Failed = 0
