use Rattle.std.proofs.Common.{◌≡◌, ℕ, ◌+◌, ◌<◌, ◌&&◌, cond}
use Rattle.std.specs.List.{count_by}
use Rattle.std.specs.Prelude.{int_le}
use lib.IntN.{pos}
use Rattle.clip.specs.EdgeClass.{has_row}
use Rattle.scanfill.specs.Flips.{flips_by}
use Rattle.scanfill.proofs.flips.Flips.add_column.Given as goal

-- the rows before this one have their flips
abbrev pub invariant-loop-row : goal.invariant-loop-row
invariant-loop-row l = record {
  sides : l.self ≡ record l.fn.self { flips = l.self.flips };
  counts : (i j : ℕ) → i < l.fn.self.width →
      count_by (flips_by i j) l.self.flips ≡ count_by (flips_by i j) l.fn.self.flips + cond (has_row (record { from = l.fn.rows.from; to = l.row }) j && int_le l.column (pos i)) 1 0;
}
