use Rattle.std.proofs.Common.{◌≡◌, ◌≤◌, length, take}
use Rattle.std.specs.List.{count_by}
use Rattle.geom.specs.EvenOdd.{is_odd}
use Rattle.scanfill.specs.RowFlips.{is_flipped}
use Rattle.scanfill.specs.Reading.{AllAre, IsReading}
use Rattle.scanfill.proofs.row_flips.read_flips.Given as goal

abbrev pub invariant-loop-column : goal.invariant-loop-column
invariant-loop-column l = record {
  rising : l.at ≤ l.column;
  bound : l.at ≤ length l.flips;
  parity : l.is_inside ≡ is_odd (count_by (λ flip. flip) (take l.column l.flips));
  same : AllAre (is_flipped l.flips) l.is_inside l.at l.column;
  read : IsReading (is_flipped l.flips) (length l.flips) l.at l.reading l.out;
}
