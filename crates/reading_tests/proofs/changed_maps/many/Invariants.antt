use Rattle.std.proofs.Common.{◌≤◌, length, All}
use Rattle.mapdefs.specs.LayerLimits.{HasValues}
use Rattle.reading_tests.proofs.changed_maps.many.Given as goal

abbrev pub invariant-loop-number : goal.invariant-loop-number
invariant-loop-number l = record {
  count : length l.features ≤ l._number;
  values : All (HasValues 0) l.features;
}
