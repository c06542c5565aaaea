use Rattle.std.proofs.Common.{◌+◌, ◌*◌, ◌≤◌, ◌++◌, List, Option, take}
use Rattle.mapdefs.specs.declared.colour.Rgb.{Rgb}
use Rattle.smoothing.specs.Sums.{AreSums}
use Rattle.smoothing.proofs.sums.Sums.with_run.Given as goal

abbrev pub invariant-loop-pixel : goal.invariant-loop-pixel
invariant-loop-pixel l = record {
  sums : (before : List (Option Rgb)) → AreSums before l.fn.self → AreSums (before ++ take l.pixel-index l.run) l.sums;
  few : l.sums.outer ≤ l.fn.self.outer + l.pixel-index * 16711935;
  fewer : l.sums.inner ≤ l.fn.self.inner + l.pixel-index * 16711935;
}
