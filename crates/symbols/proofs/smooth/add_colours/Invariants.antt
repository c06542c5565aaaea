use Rattle.std.proofs.Common.{◌≡◌, ◌++◌, drop}
use Rattle.std.specs.List.{flat_map}
use Rattle.symbols.specs.Netpbm.{colour_of, rgb_bytes}
use Rattle.symbols.proofs.smooth.add_colours.Given as goal

abbrev pub invariant-loop-pixel : goal.invariant-loop-pixel
invariant-loop-pixel l = l.bytes.items ++ flat_map (λ pixel. rgb_bytes (colour_of pixel)) (drop l.pixel-index l.pixels) ≡ l.fn.bytes.items ++ flat_map (λ pixel. rgb_bytes (colour_of pixel)) l.pixels
