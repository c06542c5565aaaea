use Rattle.std.proofs.Common.{◌≡◌, drop}
use Rattle.mapfaults.specs.Missing.{has_control}
use Rattle.mapfaults.proofs.file_messages.has_control.Given as goal

abbrev pub invariant-loop-i : goal.invariant-loop-i
invariant-loop-i l = has_control (drop l.i l.bytes) ≡ has_control l.name
