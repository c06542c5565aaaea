-- What a call of a socket came to (docs/WMS.md, "HTTP"; POSIX.1-2017, `read` and `write`: EINTR, EAGAIN).
use Rattle.std.specs.Prelude.{ℕ, zero, suc, Option, None, Some, Result, Ok, Err}
use Rattle.std.specs.IoError.{error_kind}
use Rattle.std.specs.declared.io.Error.{Error}
use Rattle.std.specs.declared.io.ErrorKind.{ErrorKind}
use Rattle.std.specs.declared.io.ErrorKind.TheVariants.{Interrupted, WouldBlock}
use Rattle.turns.specs.declared.outcomes.ReadOutcome.{ReadOutcome}
use Rattle.turns.specs.declared.outcomes.ReadOutcome.TheVariants as read
use Rattle.turns.specs.declared.outcomes.WriteOutcome.{WriteOutcome}
use Rattle.turns.specs.declared.outcomes.WriteOutcome.TheVariants as write

-- a read that failed: it is made again where a signal interrupted it, and would wait where nothing has come. By any other error the connection failed
abbrev pub unread_by : ErrorKind → Option ReadOutcome
unread_by Interrupted = None
unread_by WouldBlock = Some read.WouldBlock
unread_by kind = Some read.Failed

-- what a read came to: so many bytes, or with none the client's end; none where it is made again
abbrev pub read_outcome : Result ℕ Error → Option ReadOutcome
read_outcome (Ok zero) = Some read.End
read_outcome (Ok (suc n)) = Some (read.Bytes (suc n))
read_outcome (Err error) = unread_by (error_kind error)

-- a write that failed, likewise
abbrev pub unwritten_by : ErrorKind → Option WriteOutcome
unwritten_by Interrupted = None
unwritten_by WouldBlock = Some write.WouldBlock
unwritten_by kind = Some write.Failed

-- what a write came to: so many bytes were taken; none where it is made again. A socket that takes nothing has failed
abbrev pub write_outcome : Result ℕ Error → Option WriteOutcome
write_outcome (Ok zero) = Some write.Failed
write_outcome (Ok (suc n)) = Some (write.Bytes (suc n))
write_outcome (Err error) = unwritten_by (error_kind error)
