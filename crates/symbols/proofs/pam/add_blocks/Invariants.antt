use Rattle.std.proofs.Common.{◌≡◌, ◌++◌, drop}
use Rattle.std.specs.List.{flat_map}
use Rattle.symbols.specs.Netpbm.{opacity_bytes}
use Rattle.symbols.proofs.pam.add_blocks.Given as goal

abbrev pub invariant-loop-block : goal.invariant-loop-block
invariant-loop-block l =
    l.bytes.items ++ flat_map (flat_map opacity_bytes) (drop l.block-index l.blocks) ≡ l.fn.bytes.items ++ flat_map (flat_map opacity_bytes) l.blocks
