use Rattle.std.proofs.Common.{◌≡◌, drop}
use Rattle.mapfaults.specs.Missing.{first_missing}
use Rattle.mapfaults.proofs.file_messages.first_missing.Given as goal

abbrev pub invariant-loop-name : goal.invariant-loop-name
invariant-loop-name l = first_missing l.files (drop l.name-index l.names) ≡ first_missing l.files l.names
