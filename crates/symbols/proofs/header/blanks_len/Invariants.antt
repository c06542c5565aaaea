use Rattle.std.proofs.Common.{◌≡◌, ◌+◌, false, drop}
use Rattle.symbols.specs.Format.{blanks_len}
use Rattle.symbols.proofs.header.blanks_len.Given as goal

abbrev pub invariant-loop-i : goal.invariant-loop-i
invariant-loop-i l = l.i + blanks_len l.in_comment (drop l.i l.bytes) ≡ blanks_len false l.bytes
