use Rattle.std.proofs.Common.{◌≡◌, ℕ, ◌+◌, ◌<◌, ◌≤◌, None, length}
use Rattle.std.specs.Prelude.{slice_index_or}
use Rattle.smoothing.specs.Sums.{HasBytes, inner_of, outer_of}
use Rattle.smoothing.proofs.columns.Columns.add_row.Given as goal

-- the columns before this one have a pixel more, and the others are as they were
abbrev pub invariant-loop-k : goal.invariant-loop-k
invariant-loop-k g l = record {
  wide : length l.self.outer ≡ g.row.W;
  high : length l.self.inner ≡ g.row.W;
  bytes : (i : ℕ) → i < l.k → HasBytes (slice_index_or l.run i None);
  outers : (i : ℕ) → i < l.k → slice_index_or l.self.outer i 0 ≡ slice_index_or l.fn.self.outer i 0 + outer_of (slice_index_or l.run i None);
  inners : (i : ℕ) → i < l.k → slice_index_or l.self.inner i 0 ≡ slice_index_or l.fn.self.inner i 0 + inner_of (slice_index_or l.run i None);
  other_outers : (i : ℕ) → l.k ≤ i → slice_index_or l.self.outer i 0 ≡ slice_index_or l.fn.self.outer i 0;
  other_inners : (i : ℕ) → l.k ≤ i → slice_index_or l.self.inner i 0 ≡ slice_index_or l.fn.self.inner i 0;
}
