use Rattle.std.proofs.Common.{◌≡◌, ◌*◌, ◌++◌, take, drop, length}
use Rattle.hex.specs.Hex.{encode_with, lower_digits}
use Rattle.scripts.proofs.hexadecimal.fill_digits.Given as goal

abbrev pub invariant-loop-i : goal.invariant-loop-i
invariant-loop-i l = record {
  text : take (2 * l.i) l.digits ++ encode_with lower_digits (drop l.i l.bytes) ≡ encode_with lower_digits l.bytes;
  count : length l.digits ≡ 64;
}
