use Rattle.std.proofs.Common.{◌≡◌, ◌≤◌, ◌<◌, ℕ, false}
use Rattle.featureinfo.proofs.nearby.Nearby.meets_cover.Given as goal

-- the rows so far have none
abbrev pub invariant-loop-row : goal.invariant-loop-row
invariant-loop-row g l = record {
  least : l.self.top ≤ l.row;
  none : (column row : ℕ) → l.self.left ≤ column → column < l.self.right → l.self.top ≤ row → row < l.row → g.C.Cover.covered l.cover column row ≡ false;
}
