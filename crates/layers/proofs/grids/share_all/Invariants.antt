use Rattle.std.proofs.Common.{◌≡◌, take}
use Rattle.layers.proofs.grids.share_all.Given as goal

abbrev pub invariant-loop-grid : goal.invariant-loop-grid
invariant-loop-grid l = l.shared.items ≡ take l.grid-index l.grids
