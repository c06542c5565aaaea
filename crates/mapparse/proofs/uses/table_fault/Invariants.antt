use Rattle.std.proofs.Common.{◌≡◌, drop}
use Rattle.std.specs.List.{list_any}
use Rattle.mapparse.specs.Uses.{lacks_table}
use Rattle.mapparse.proofs.uses.table_fault.Given as goal

abbrev pub invariant-loop-layer : goal.invariant-loop-layer
invariant-loop-layer l = list_any (lacks_table l.name l.bytes) (drop l.layer-index l.layers) ≡ list_any (lacks_table l.name l.bytes) l.layers
