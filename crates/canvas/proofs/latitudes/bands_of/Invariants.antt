use Rattle.std.proofs.Common.{◌≡◌, length}
use Rattle.canvas.specs.Latitudes.{AreBands}
use Rattle.canvas.proofs.latitudes.bands_of.Given as goal

-- the rows before this one have their bands
abbrev pub invariant-loop-row : goal.invariant-loop-row
invariant-loop-row l = record {
  count : length l.bands.items ≡ l.row;
  each : AreBands l.projection l.bands.items;
}
