use Rattle.std.proofs.Common.{◌≡◌, drop}
use Rattle.std.specs.List.{list_any}
use Rattle.mapparse.specs.Uses.{lacks_pixmap}
use Rattle.mapparse.proofs.uses.pixmap_fault.Given as goal

abbrev pub invariant-loop-symbol : goal.invariant-loop-symbol
invariant-loop-symbol l = list_any (lacks_pixmap l.name l.bytes) (drop l.symbol-index l.symbols) ≡ list_any (lacks_pixmap l.name l.bytes) l.symbols
