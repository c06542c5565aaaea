use Rattle.std.proofs.Common.{◌≡◌, ℕ, ◌+◌, drop, length}
use Rattle.canvas.specs.Painted.{colour_of}
use Rattle.canvas.proofs.Stamps.{shown}
use Rattle.symbols.specs.Stamp.{pixel_from}
use Rattle.canvas.proofs.colouring.RowPixelsColouring.fill.Given as goal

-- where the remaining colours are put too, all are
abbrev pub invariant-loop-k : goal.invariant-loop-k
invariant-loop-k l = record {
  width : length l.row ≡ length l.fn.row;
  filled : (i : ℕ) →
      shown (pixel_from (l.self.from + l.k) (drop l.k l.self.colours.now) i) (colour_of l.row i) ≡ shown (pixel_from l.self.from l.self.colours.now i) (colour_of l.fn.row i);
}
