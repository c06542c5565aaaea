-- The commands of a client of the administration port (docs/SERVICE.md, "Administration").
use Rattle.std.specs.Prelude.{ℕ, nat_eq, nat_le, nat_lt, if◌then◌else◌, List, length, take, drop, Option, None, Some, codes}
use Rattle.std.specs.List.{before_first, after_first, list_any, starts_with}
use Rattle.std.specs.Str.{bytes_eq}
use Rattle.batches.specs.Command.{count_of, is_line_end}
use Rattle.batches.specs.declared.fault.TheConstants.{MAX_BATCH}
use Rattle.administration.specs.declared.line.ClientLine.{ClientLine}
use Rattle.administration.specs.declared.line.ClientLine.TheVariants as line
use Rattle.administration.specs.declared.line.TheConstants.{MAX_LINE_BYTES}

-- to submit a batch of these bytes, to publish the pending batches, or no command
pub data Command : Type 0 where
  Submit : List ℕ → Command
  Publish : Command
  Malformed : Command

-- a batch has this count of bytes, and at most 4 MiB
abbrev pub batch_line : Option ℕ → ClientLine
batch_line None = line.Malformed
batch_line (Some count) = if nat_le count MAX_BATCH then line.Batch count else line.Malformed

-- the meaning of a line
abbrev pub line_of : List ℕ → ClientLine
line_of text =
    if starts_with nat_eq text (codes "BATCH ") then batch_line (count_of (drop 6 text))
    else if bytes_eq text (codes "RETRY") then line.Retry
    else line.Malformed

-- the command of a line that some bytes follow, and the bytes after it, if that many bytes follow
abbrev pub command_of : ClientLine → List ℕ → Option (Command × List ℕ)
command_of (line.Batch count) rest = if nat_lt (length rest) count then None else Some (Submit (take count rest), drop count rest)
command_of line.Retry rest = Some (Publish, rest)
command_of line.Malformed rest = Some (Malformed, rest)

-- the command at the start of some bytes, and the bytes after it, if there is a whole one. The line of a command ends within its first 33 bytes; 33
-- bytes without an LF are malformed, whatever follows
unfoldable pub first_command : List ℕ → Option (Command × List ℕ)
first_command bytes =
    if list_any is_line_end (take MAX_LINE_BYTES bytes) then command_of (line_of (before_first is_line_end bytes)) (after_first is_line_end bytes)
    else if nat_le MAX_LINE_BYTES (length bytes) then Some (Malformed, drop MAX_LINE_BYTES bytes)
    else None
