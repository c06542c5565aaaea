use Rattle.std.proofs.Common.{◌≡◌, ◌++◌, map, take}
use Rattle.std.specs.List.{slice_range}
use Rattle.csvpoints.specs.Rows.{value_in}
use Rattle.csvpoints.proofs.rows.add_values.Given as goal

abbrev pub invariant-loop-column : goal.invariant-loop-column
invariant-loop-column l = l.chosen ≡ l.fn.chosen ++ map (value_in (slice_range l.texts l.row.start l.row.end)) (take l.column-index l.columns)
