-- Batches as they are written (docs/SERVICE.md, "Batches").
use Rattle.std.specs.Prelude.{◌≡◌, ℕ, ◌<◌, ◌^◌, false, List, ◌++◌, length, All, None, codes}
use Rattle.std.specs.Fmt.{decimal}
use Rattle.std.specs.List.{flat_map, list_any}
use Rattle.batches.specs.Command.{ends_in_cr, is_line_end, reading_of}
use Rattle.batches.specs.declared.command.Command.{Command}
use Rattle.batches.specs.declared.command.Command.TheVariants.{On, Off, Clear, Append}

-- a command as it is written: a line, and for a table its bytes after that
abbrev pub written_command : Command → List ℕ
written_command (On name) = codes "ON " ++ (name ++ codes "\n")
written_command (Off name) = codes "OFF " ++ (name ++ codes "\n")
written_command (Clear name) = codes "CLEAR " ++ (name ++ codes "\n")
written_command (Append name bytes) =
    codes "APPEND " ++ (decimal (length bytes) ++ (codes " " ++ (name ++ (codes "\n" ++ bytes))))

-- commands as they are written, one after the other
abbrev pub written : List Command → List ℕ
written commands = flat_map written_command commands

-- a name fits on a line: it has no LF, and no CR at its end
pub record FitsOnLine (name : List ℕ) : Type 0 where
  pub line : list_any is_line_end name ≡ false
  pub end : ends_in_cr name ≡ false

-- a command can be written: its name fits on a line, and the count of its bytes has at most 10 digits
abbrev pub CanBeWritten : Command → Type 0
CanBeWritten (On name) = FitsOnLine name
CanBeWritten (Off name) = FitsOnLine name
CanBeWritten (Clear name) = FitsOnLine name
CanBeWritten (Append name bytes) = FitsOnLine name × (length bytes < 10 ^ 10)

-- the law: commands that are written are read back as these commands
abbrev pub WrittenIsRead : Type 0
WrittenIsRead = (commands : List Command) → All CanBeWritten commands → reading_of (written commands) ≡ record { commands = commands; wrong = None }
