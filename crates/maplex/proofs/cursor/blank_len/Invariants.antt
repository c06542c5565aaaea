use Rattle.std.proofs.Common.{◌≡◌, ◌+◌, drop, false}
use Rattle.maplex.specs.Position.{blank_len}
use Rattle.maplex.proofs.cursor.blank_len.Given as goal

abbrev pub invariant-loop-i : goal.invariant-loop-i
invariant-loop-i l = l.i + blank_len l.in_comment (drop l.i l.bytes) ≡ blank_len false l.bytes
