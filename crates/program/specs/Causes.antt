-- The messages on why a journal failed, or isn't compacted (docs/SERVICE.md, "Journal").
use Rattle.std.specs.Prelude.{ℕ, List, ◌++◌, Option, None, Some, codes}
use Rattle.keepers.specs.declared.cause.LogCause.{LogCause}
use Rattle.keepers.specs.declared.cause.LogCause.TheVariants as cause
use Rattle.program.specs.declared.host.OpenFault.{OpenFault}
use Rattle.program.specs.declared.host.OpenFault.TheVariants as fault

-- the fault of a log that failed as it was served
abbrev pub fault_of_cause : Option LogCause → OpenFault
fault_of_cause (Some cause.NotAllowed) = fault.NotAllowed
fault_of_cause (Some cause.ReadOnly) = fault.ReadOnly
fault_of_cause (Some cause.Full) = fault.Full
fault_of_cause (Some cause.Replaced) = fault.Replaced
fault_of_cause (Some cause.NoMemory) = fault.NoMemory
fault_of_cause other = fault.Failed

-- why a journal isn't compacted
unfoldable pub uncompacted_message : LogCause → List ℕ
uncompacted_message cause.NotAllowed = codes "the program may not make or rename files in its folder"
uncompacted_message cause.ReadOnly = codes "its file system is read-only"
uncompacted_message cause.Full = codes "its disk is full"
uncompacted_message cause.Replaced = codes "it was removed or replaced"
uncompacted_message cause.Link = codes "its path is a symbolic link"
uncompacted_message cause.NoName = codes "each name of a new file is taken, up to .new-1000"
uncompacted_message cause.InUse = codes "it is mounted by itself"
uncompacted_message cause.NoMemory = codes "out of memory"
uncompacted_message cause.Unread = codes "a record of it isn't read"
uncompacted_message cause.Overtaken = codes "the map has other batches"
uncompacted_message cause.Other = codes "a new file can't be written or renamed"

-- the line that reports it, with the path of the journal
abbrev pub uncompacted_line : List ℕ → LogCause → List ℕ
uncompacted_line path why = codes "warning journal " ++ (path ++ (codes ": it isn't compacted: " ++ (uncompacted_message why ++ codes "\n")))
