use Rattle.std.proofs.Common.{◌≡◌, ℕ, ◌<◌, ◌≤◌, false, take}
use Rattle.std.specs.List.{list_any}
use Rattle.clip.specs.EdgeClass.{has_row}
use Rattle.strokes.proofs.line.rows_of_all.Given as goal

abbrev pub invariant-loop-cover : goal.invariant-loop-cover
invariant-loop-cover g l = record {
  within : l.rows.to ≤ l.height;
  none : (i j : ℕ) → i < l.width → j < l.height → has_row l.rows j ≡ false → list_any (λ c. g.C.Cover.covered c i j) (take l.cover-index l.covers) ≡ false;
}
