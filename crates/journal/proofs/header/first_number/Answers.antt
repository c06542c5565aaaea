use Rattle.std.proofs.Common.{ap, arith, length, length-append}
use Rattle.journal.specs.Record.{sequence_bytes}
use Rattle.journal.proofs.Frames.{length-sequence_bytes}
use Rattle.journal.proofs.header.first_number.Goals as goal

pub returns-then-bytes-lt-SEQUENCE : goal.returns-then-bytes-lt-SEQUENCE
returns-then-bytes-lt-SEQUENCE c number rest same =
    omega (arith, ap length same, length-append (sequence_bytes number) rest, length-sequence_bytes number)
