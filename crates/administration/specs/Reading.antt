-- How commands are read from a stream (docs/SERVICE.md, "Administration").
use Rattle.std.specs.Prelude.{◌≡◌, ◌⊎◌, ◌<◌, ℕ, Bool, true, List, [], ◌∷◌, ◌++◌, Option, None, Some, IfSome, length, map}
use Rattle.std.specs.Io.KnownBytes.{Consumes, IsAtEnd}
use Rattle.administration.specs.Commands.{Command, Submit, Publish, Malformed, command_of, first_command}
use Rattle.administration.specs.declared.line.ClientLine.{ClientLine}
use Rattle.administration.specs.declared.reading.ReadCommand.{ReadCommand}
use Rattle.administration.specs.declared.reading.ReadCommand.TheVariants as asked
use Rattle.administration.specs.declared.group.Next.{Next}
use Rattle.administration.specs.declared.group.Next.TheVariants as next
use Rattle.administration.specs.declared.group.Other.{Other}
use Rattle.administration.specs.declared.group.Other.TheVariants as other

-- these bytes of a client were read, and then no more came: it ended, or the reader failed
pub record HasEnded (before after : Option (List ℕ)) (failed : Bool) (bytes : List ℕ) : Type 0 where
  pub read : Consumes before after bytes
  pub end : IsAtEnd after ⊎ (failed ≡ true)

-- fewer bytes than so many were read, and then no more came
abbrev pub HasEndedWithin : Option (List ℕ) → Option (List ℕ) → Bool → ℕ → Type 0
HasEndedWithin before after failed count = (bytes : List ℕ) × HasEnded before after failed bytes × (length bytes < count)

-- bytes were read in which no command ends, and then no more came
abbrev pub HasNoCommand : Option (List ℕ) → Option (List ℕ) → Bool → Type 0
HasNoCommand before after failed = (bytes : List ℕ) × HasEnded before after failed bytes × (first_command bytes ≡ None)

-- whatever follows these bytes, they are a line with this meaning
abbrev pub IsLineOf : List ℕ → ClientLine → Type 0
IsLineOf bytes line = (more : List ℕ) → first_command (bytes ++ more) ≡ command_of line more

-- whatever follows these bytes, they are those of the command
abbrev pub IsCommandOf : List ℕ → Command → Type 0
IsCommandOf bytes command = (more : List ℕ) → first_command (bytes ++ more) ≡ Some (command, more)

-- the part of a command that is held: the bytes of a batch, unless memory was refused for them
abbrev pub IsHeldOf : Command → ReadCommand → Type 0
IsHeldOf (Submit bytes) (asked.Batch held) = IfSome held (λ batch. batch.items ≡ bytes)
IsHeldOf Publish asked.Retry = Unit {0}
IsHeldOf Malformed asked.Malformed = Unit {0}
IsHeldOf command asked = ⊥

-- a command was read, of which this is held
abbrev pub HasReadCommand : Option (List ℕ) → Option (List ℕ) → ReadCommand → Type 0
HasReadCommand before after held = (bytes : List ℕ) × (command : Command) × Consumes before after bytes × IsCommandOf bytes command × IsHeldOf command held

-- some bytes begin with these commands, and a rest follows
abbrev pub StartWith : List Command → List ℕ → List ℕ → Type 0
StartWith [] bytes rest = rest ≡ bytes
StartWith (command ∷ commands) bytes rest = (after : List ℕ) × (first_command bytes ≡ Some (command, after)) × StartWith commands after rest

-- whatever follows these bytes, they are those of the commands
abbrev pub AreCommandsOf : List ℕ → List Command → Type 0
AreCommandsOf bytes commands = (more : List ℕ) → StartWith commands (bytes ++ more) more

-- a command that keeps no batch: memory was refused for the bytes of one, or it is none
abbrev pub IsOther : Command → Other → Type 0
IsOther (Submit bytes) other.NoMemory = Unit {0}
IsOther Publish other.Retry = Unit {0}
IsOther Malformed other.Malformed = Unit {0}
IsOther command what = ⊥

-- after some batches nothing more was read, or another command, or the end
abbrev pub HasNext : Option (List ℕ) → Option (List ℕ) → Bool → Next → Type 0
HasNext before after failed next.Nothing = after ≡ before
HasNext before after failed (next.Command what) =
    (bytes : List ℕ) × (command : Command) × Consumes before after bytes × IsCommandOf bytes command × IsOther command what
HasNext before after failed next.End = HasNoCommand before after failed

-- these batches were read, and what follows them
pub record HasReadGroup (before after : Option (List ℕ)) (failed : Bool) (batches : List (List ℕ)) (then : Next) : Type 0 where
  pub bytes : List ℕ
  pub between : Option (List ℕ)
  pub came : Consumes before between bytes
  pub commands : AreCommandsOf bytes (map Submit batches)
  pub next : HasNext between after failed then
