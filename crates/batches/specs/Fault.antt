-- The numbers of the kinds of faults of batches (docs/SERVICE.md, "Batches").
use Rattle.std.specs.Prelude.{ℕ}
use Rattle.layers.specs.declared.fault.Refusal.TheVariants.{UnknownLayer, NotPoints, Full}
use Rattle.batches.specs.declared.command.CommandFault.TheVariants.{UnknownWord, Short}
use Rattle.batches.specs.declared.fault.BatchKind.{BatchKind}
use Rattle.batches.specs.declared.fault.BatchKind.TheVariants.{Unread, Refused, Csv, TooLong, SequenceEnd}

-- the number of a kind
abbrev pub number_of : BatchKind → ℕ
number_of (Unread UnknownWord) = 1
number_of (Refused UnknownLayer) = 2
number_of (Refused NotPoints) = 3
number_of (Csv fault) = 4
number_of (Refused Full) = 5
number_of (Unread Short) = 6
number_of TooLong = 7
number_of SequenceEnd = 8
