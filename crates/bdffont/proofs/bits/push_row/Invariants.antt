use Rattle.std.proofs.Common.{◌≡◌, ◌++◌, take, drop}
use Rattle.bdffont.specs.Bits.{bits}
use Rattle.bdffont.proofs.bits.push_row.Given as goal

abbrev pub invariant-loop-digit : goal.invariant-loop-digit
invariant-loop-digit l = l.pixels ++ take l.left (bits (drop l.digit-index l.line)) ≡ l.initial.pixels ++ take l.width (bits l.line)
