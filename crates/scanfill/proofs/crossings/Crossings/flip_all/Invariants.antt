use Rattle.std.proofs.Common.{◌≡◌, ℕ, ◌<◌, length, take}
use Rattle.std.specs.List.{count_by}
use Rattle.geom.specs.EvenOdd.{is_odd}
use Rattle.scanfill.specs.Crossing.{reaches}
use Rattle.scanfill.specs.RowFlips.{flip_if, is_flipped}
use Rattle.scanfill.proofs.crossings.Crossings.flip_all.Given as goal

abbrev pub invariant-loop-at : goal.invariant-loop-at
invariant-loop-at l = record {
  width : length l.flips ≡ length l.fn.flips;
  all : (i : ℕ) → i < length l.fn.flips → is_flipped l.flips i ≡ flip_if (is_odd (count_by (reaches i l.self.row) (take l.at l.self.list.items))) (is_flipped l.fn.flips i);
}
