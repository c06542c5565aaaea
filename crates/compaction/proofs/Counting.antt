-- Batches that were skipped are counted in a state.
use Rattle.std.proofs.Common.{◌≡◌, ℕ, ◌+◌, ap, arith}
use Rattle.batches.specs.Batch.{State}
use Rattle.compaction.specs.Compacted.{skipping}

pub skipping-none : (s : State) → skipping 0 s ≡ s
skipping-none s = ap (λ (n : ℕ). record { map = s.map; sequence = n }) (none s.sequence)
  where
    none : (n : ℕ) → n + 0 ≡ n
    none n = omega arith

pub skipping-more : (a b : ℕ) (s : State) → skipping (a + b) s ≡ skipping b (skipping a s)
skipping-more a b s = ap (λ (n : ℕ). record { map = s.map; sequence = n }) (both s.sequence)
  where
    both : (n : ℕ) → n + (a + b) ≡ (n + a) + b
    both n = omega arith
