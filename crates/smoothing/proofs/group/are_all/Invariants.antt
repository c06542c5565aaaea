use Rattle.std.proofs.Common.{◌≡◌, ℕ, ◌<◌, None}
use Rattle.std.specs.Prelude.{IsTrue, slice_index_or}
use Rattle.smoothing.proofs.group.are_all.Given as goal

abbrev pub invariant-loop-pixel : goal.invariant-loop-pixel
invariant-loop-pixel l = IsTrue l.same → (k : ℕ) → k < l.pixel-index → slice_index_or l.run k None ≡ l.fn.colour
