use Rattle.std.proofs.Common.{◌≡◌, ◌++◌, take}
use Rattle.accesslog.specs.Lines.{escaped}
use Rattle.accesslog.proofs.line.push_escaped.Given as goal

-- the bytes so far are shown
abbrev pub invariant-loop-byte : goal.invariant-loop-byte
invariant-loop-byte l = l.line.items ≡ l.fn.line.items ++ escaped (take l.byte-index l.bytes)
