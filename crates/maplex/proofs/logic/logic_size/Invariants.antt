use Rattle.std.proofs.Common.{◌≡◌, ◌+◌, ◌≤◌, drop, None}
use Rattle.maplex.specs.Logic.{opened, inner_len}
use Rattle.maplex.proofs.logic.logic_size.Given as goal

-- the bytes so far, and those before the closing one among the others, come before the closing one of all
abbrev pub invariant-loop-i : goal.invariant-loop-i
invariant-loop-i l = record {
  count : l.i + inner_len l.opened (drop l.i l.bytes) ≡ inner_len (opened 0 None) l.bytes;
  room : l.opened.brackets ≤ l.i;
}
