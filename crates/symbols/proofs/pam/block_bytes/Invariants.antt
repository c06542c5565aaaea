use Rattle.std.proofs.Common.{◌≡◌, ◌*◌, length, take}
use Rattle.std.specs.List.{flat_map}
use Rattle.symbols.specs.Netpbm.{opacity_bytes}
use Rattle.symbols.proofs.pam.block_bytes.Given as goal

-- the bytes of the pixels before this one are set
abbrev pub invariant-loop-i : goal.invariant-loop-i
invariant-loop-i l = record {
  count : length l.bytes ≡ 4 * 32;
  front : take (4 * l.i) l.bytes ≡ flat_map opacity_bytes (take l.i l.pixels);
}
