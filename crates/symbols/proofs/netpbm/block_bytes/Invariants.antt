use Rattle.std.proofs.Common.{◌≡◌, ◌*◌, length, take}
use Rattle.std.specs.List.{flat_map}
use Rattle.symbols.specs.Netpbm.{pixmap_bytes}
use Rattle.symbols.proofs.netpbm.block_bytes.Given as goal

-- the bytes of the pixels before this one are set
abbrev pub invariant-loop-i : goal.invariant-loop-i
invariant-loop-i l = record {
  count : length l.bytes ≡ 3 * 32;
  front : take (3 * l.i) l.bytes ≡ flat_map pixmap_bytes (take l.i l.pixels);
}
