-- A greater tolerance includes all pixels of a lesser one.
use Rattle.std.proofs.Common.{ℕ, ◌+◌, ◌≤◌, min, arith}
use Rattle.std.proofs.Math.Nat.{le-min, min-le_left, min-le_right}
use Rattle.featureinfo.specs.Hits.{ToleranceOnlyAdds}

-- what is below the lesser of two numbers is below the lesser of a greater one and the other
below-more : (n a b c : ℕ) → n + 1 ≤ min a c → a ≤ b → n + 1 ≤ min b c
below-more n a b c h le = le-min {k = n + 1} {a = b} {b = c} (omega (arith, min-le_left a c)) (omega (arith, min-le_right a c))

pub tolerance-only-adds : ToleranceOnlyAdds
tolerance-only-adds scene layer tolerance i j feature more hit = record {
  shows = hit.shows;
  class = hit.class;
  near = record {
    column = hit.near.column;
    row = hit.near.row;
    left = omega (arith, hit.near.left);
    right = omega (arith, below-more hit.near.column (i + layer.tolerance + 1) (i + tolerance + 1) scene.view.width (omega (arith, hit.near.right)) (omega arith));
    top = omega (arith, hit.near.top);
    bottom = omega (arith, below-more hit.near.row (j + layer.tolerance + 1) (j + tolerance + 1) scene.view.height (omega (arith, hit.near.bottom)) (omega arith));
    passes = hit.near.passes;
  };
}
