use Rattle.std.proofs.Common.{◌≡◌, ◌+◌, ◌*◌, length}
use Rattle.std.specs.Prelude.{All}
use Rattle.csvpoints.specs.Rows.{rows_of}
use Rattle.csvpoints.specs.Source.{left, IsReading}
use Rattle.csvpoints.specs.Table.{features_of, IsPointWith}
use Rattle.csvpoints.proofs.RowsLeft.{with_before}
use Rattle.csvpoints.proofs.table.read_rows.Given as goal

-- the rows so far, and those that are left, are all; each so far has its texts
abbrev pub invariant-loop-index : goal.invariant-loop-index
invariant-loop-index l = record {
  reading : IsReading l.reader;
  points : All (IsPointWith l.fn.columns.count) (rows_of l.fn.columns.count l.places l.texts);
  all : with_before (rows_of l.fn.columns.count l.places l.texts) (features_of l.fn.columns l.fn.limit (l.index + 2) (left l.reader)) ≡ features_of l.fn.columns l.fn.limit 2 (left l.fn.reader);
  count : length l.places ≡ l.index;
  texts : length l.texts ≡ length l.places * l.fn.columns.count;
}
