use Rattle.std.proofs.Common.{◌≡◌, ◌++◌, drop}
use Rattle.std.specs.List.{flat_map}
use Rattle.symbols.specs.Netpbm.{opacity_bytes}
use Rattle.symbols.proofs.pam.add_rest.Given as goal

abbrev pub invariant-loop-pixel : goal.invariant-loop-pixel
invariant-loop-pixel l = l.bytes.items ++ flat_map opacity_bytes (drop l.pixel-index l.pixels) ≡ l.fn.bytes.items ++ flat_map opacity_bytes l.pixels
