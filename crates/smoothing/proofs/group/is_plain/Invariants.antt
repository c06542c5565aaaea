use Rattle.std.proofs.Common.{◌≡◌, ℕ, ◌+◌, ◌<◌}
use Rattle.std.specs.Prelude.{IsTrue}
use Rattle.smoothing.specs.Fine.{pixel_at}
use Rattle.smoothing.proofs.group.is_plain.Given as goal

abbrev pub invariant-loop-row : goal.invariant-loop-row
invariant-loop-row g l = IsTrue l.plain → (i j : ℕ) → i < g.row.W → j < l.row → pixel_at l.fine l.width (l.first + i) j ≡ l.colour
