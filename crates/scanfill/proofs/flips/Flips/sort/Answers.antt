use Rattle.std.proofs.Common.{◌∙◌, ℕ, cond, ap}
use Rattle.std.proofs.lemmas.List.Sorted.{All-permutation, IsNonDecreasingBy-from_sort, sum_by-IsPermutation}
use Rattle.geom.specs.EvenOdd.{is_odd}
use Rattle.scanfill.specs.Flips.{IsFlipOf, FlipsValue, is_pixel_flipped, flips_by}
use Rattle.scanfill.proofs.flips.Flips.sort.Goals as goal

pub invariant_of-self : goal.invariant_of-self
invariant_of-self c =
    All-permutation (IsFlipOf c.self.inside.width c.self.inside.height) c.self.inside.indices.items c.sort_unstable.new.self.items c.sort_unstable.ensures.permutation c.self.invariant

pub returns-clause-rising : goal.returns-clause-rising
returns-clause-rising c = IsNonDecreasingBy-from_sort (λ n. n) c.sort_unstable.new.self.items c.sort_unstable.ensures.sorted

pub returns-clause-same : goal.returns-clause-same
returns-clause-same c = λ i j.
    ap is_odd (sum_by-IsPermutation (λ (k : ℕ). cond {A = ℕ} (flips_by i j k) 1 0) c.self.inside.indices.items c.sort_unstable.new.self.items c.sort_unstable.ensures.permutation)
    ∙ ap (λ (t : FlipsValue). is_pixel_flipped t.flips i j) c.self.view_is
