use Rattle.std.proofs.Common.{◌≡◌, drop}
use Rattle.std.specs.List.{list_any}
use Rattle.mapparse.specs.Uses.{lacks_font, lacks_some_font}
use Rattle.mapparse.proofs.uses.font_fault.Given as goal

abbrev pub invariant-loop-used : goal.invariant-loop-used
invariant-loop-used l = list_any (lacks_font l.tree.values l.name l.bytes) (drop l.used-index l.all) ≡ lacks_some_font l.tree l.name l.bytes
