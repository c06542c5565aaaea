use Rattle.std.proofs.Common.{◌≡◌, ◌++◌, drop}
use Rattle.std.specs.List.{flat_map}
use Rattle.mapdefs.specs.PixelBytes.{rgba_bytes}
use Rattle.symbols.proofs.smooth.add_alphas.Given as goal

abbrev pub invariant-loop-pixel : goal.invariant-loop-pixel
invariant-loop-pixel l = l.bytes.items ++ flat_map rgba_bytes (drop l.pixel-index l.pixels) ≡ l.fn.bytes.items ++ flat_map rgba_bytes l.pixels
